-- A list of fates, cut at its commas.
use Rattle.std.proofs.Common.{◌≡◌, ◌≢◌, ◌<◌, ◌≤◌, ℕ, true, List, Option, Some, None, IfSome, IfNone, length, map, get_or, refl, arith}
use Rattle.std.specs.List.{list_all}
use Rattle.dds_base.specs.declared.events.Fate.{Fate}
use Rattle.dds_base.specs.declared.events.Fate.TheVariants.{Pass, Keep, Last, Lose}
use Rattle.dds_options.specs.Fates.{AreFates}
use Rattle.dds_request.specs.Wishes.{fate_word, fates_text}
use Rattle.dds_request.proofs.WordLists.{no_word, not_comma, parts_of, same_length, some_parts, text_is, too_many}

no_commas : (f : Fate) → list_all not_comma (fate_word f) ≡ true
no_commas Pass = refl
no_commas Keep = refl
no_commas Last = refl
no_commas Lose = refl

-- a text of more parts than a list has fates is none
pub too_many_fates : (text : List ℕ) (n : ℕ) → n ≡ 64 → n < length (parts_of text) → (fates : List Fate) → AreFates fates → text ≡ fates_text fates → ⊥
too_many_fates text n is more fates are same = too_many fate_word no_commas text n 64 is more fates are.some are.few same

-- a text with a part that stands for no fate is no list of them
pub no_fate : (text : List ℕ) (n : ℕ) (word : List ℕ) → n < length (parts_of text) → word ≡ get_or (parts_of text) n word → ((fate : Fate) → word ≢ fate_word fate)
    → (fates : List Fate) → AreFates fates → text ≡ fates_text fates → ⊥
no_fate text n word lt at none fates are same = no_word fate_word no_commas text n word lt at none fates are.some same

-- the fates that were made of all parts are those of the text
pub all_read : (text : List ℕ) (fates : List Fate) (r : Option (List Fate)) → length fates ≤ 64 → map fate_word fates ≡ parts_of text → IfSome r (λ f. f ≡ fates)
    → IfSome r (λ f. AreFates f × (text ≡ fates_text f))
all_read text fates None few is same = tt
all_read text fates (Some f) few is same = rw same (record { some = some_parts fate_word text fates is; few = few }, text_is fate_word text fates is)

-- where they are none, the text is no list of fates
pub none_read : (text : List ℕ) (fates : List Fate) (r : Option (List Fate)) → map fate_word fates ≡ parts_of text → IfNone r (¬ AreFates fates)
    → IfNone r ((f : List Fate) → AreFates f → text ≢ fates_text f)
none_read text fates (Some f) is none = tt
none_read text fates None is none = λ f are same.
    let count = same_length fate_word no_commas text fates f is are.some same in
    none (record { some = omega (arith, count, are.some); few = omega (arith, count, are.few) })
