-- The fields of an endpoint's policies in JSON, each with its value, in the order of the file's format.
use Rattle.std.specs.Prelude.{codes, ℕ, List, ◌++◌}
use Rattle.std.specs.Fmt.{decimal}
use Rattle.dds_qos.specs.declared.policies.History.{History}
use Rattle.dds_qos.specs.declared.policies.Liveliness.{Liveliness}
use Rattle.dds_qos.specs.declared.policies.Policies.{Policies}
use Rattle.dds_qos.specs.declared.policies.Presentation.{Presentation}
use Rattle.dds_qos.specs.declared.policies.ResourceLimits.{ResourceLimits}
use Rattle.dds_show.specs.Pieces.{duration_text, limit_text}
use Rattle.dds_text.specs.Words.{flag_word, access_scope_word, destination_order_word, durability_word, history_word, liveliness_word, ownership_word, reliability_word}

abbrev pub presentation_fields : Presentation → List ℕ
presentation_fields x =
    codes "\"access_scope\": \"" ++ (access_scope_word x.access_scope ++ (codes "\", \"coherent\": " ++ (flag_word x.coherent ++ (codes ", \"ordered\": " ++ flag_word x.ordered))))

-- what is said of the past and of time
abbrev pub timing_fields : Policies → List ℕ
timing_fields p =
    codes "\"durability\": \"" ++ (durability_word p.durability ++ (codes "\", " ++ (presentation_fields p.presentation ++ (codes ", \"deadline\": " ++ (duration_text p.deadline
    ++ (codes ", \"latency_budget\": " ++ duration_text p.latency_budget))))))

abbrev pub liveliness_fields : Liveliness → List ℕ
liveliness_fields x = codes "\"liveliness\": \"" ++ (liveliness_word x.kind ++ (codes "\", \"lease\": " ++ duration_text x.lease))

-- what is said of who writes and how samples come
abbrev pub delivery_fields : Policies → List ℕ
delivery_fields p =
    codes "\"ownership\": \"" ++ (ownership_word p.ownership ++ (codes "\", " ++ (liveliness_fields p.liveliness ++ (codes ", \"reliability\": \"" ++ (reliability_word p.reliability
    ++ (codes "\", \"destination_order\": \"" ++ (destination_order_word p.destination_order ++ codes "\"")))))))

abbrev pub history_fields : History → List ℕ
history_fields x = codes "\"history\": \"" ++ (history_word x.kind ++ (codes "\", \"depth\": " ++ decimal x.depth))

abbrev pub limits_fields : ResourceLimits → List ℕ
limits_fields x =
    codes "\"max_samples\": " ++ (limit_text x.max_samples ++ (codes ", \"max_instances\": " ++ (limit_text x.max_instances ++ (codes ", \"max_samples_per_instance\": " ++ limit_text x.max_samples_per_instance))))

-- all policies but the partitions
abbrev pub policies_fields : Policies → List ℕ
policies_fields p = timing_fields p ++ (codes ", " ++ (delivery_fields p ++ (codes ", " ++ (history_fields p.history ++ (codes ", " ++ limits_fields p.resource_limits)))))
