use Rattle.std.proofs.Common.{◌≡◌, List, ℕ, true, false, map, sym, ap, ◌∙◌, string_bytes, Bor, String, Global, Some, None, [], refl}
use Rattle.dds_fields.specs.declared.fault.FaultKind.TheVariants.{UnknownKey}
use Rattle.std.specs.List.{list_any}
use Rattle.std.specs.List.Sorted.{IsStrictlySortedBy}
use Rattle.std.specs.Str.{bytes_eq}
use Rattle.std.specs.Map.{keys_of as keys_of_entries}
use Rattle.std.specs.Map.Iter.{deref}
use Rattle.std.proofs.lemmas.Map.Iter.{rest_more, rest_all}
use Rattle.dds_fields.specs.Reading.{only, keys_of, unlisted, least, shown}
use Rattle.dds_fields.specs.Paths.{key_path}
use Rattle.dds_fields.specs.Places.{place_text}
use Rattle.dds_base.proofs.Lists.{list_any-map}
use Rattle.dds_fields.proofs.Keys.{keys_of-view, least-first, unlisted-listed}
use Rattle.dds_fields.proofs.Each.{fails_at}
use Rattle.dds_fields.proofs.field.only.Goals as goal

pub loop-key-init : goal.loop-key-init
loop-key-init c =
    let e : c.into_iter-key-iterator.result ≡ keys_of_entries c.args.table.now.entries = cc in
    (rw e (ap (unlisted (map (λ (t : Bor (List ℕ)). t.now) c.args.listed.now)) (keys_of-view c.args.table.now.entries)), rw e c.keys-key-items.ensures.ordered)

pub loop-key-preserved : goal.loop-key-preserved
unfolding IsStrictlySortedBy
loop-key-preserved c =
    let t = rest_more deref _ _ _ c.in-Some.key c.in-Some.is c.next.ensures.steps in
    let inv = rw t at c.loop-key.invariant in
    let h : list_any (bytes_eq (string_bytes c.in-Some.key.now)) (map (λ (t : Bor (List ℕ)). t.now) c.args.listed.now) ≡ true = list_any-map (bytes_eq (string_bytes c.in-Some.key.now)) (λ (t : Bor (List ℕ)). t.now) c.args.listed.now ∙ ap (λ (k : List ℕ). list_any (λ (l : Bor (List ℕ)). bytes_eq k l.now) c.args.listed.now) (sym c.as_str.ensures.value) ∙ sym c.is_listed.ensures ∙ c.if-not-is_listed.false in
    (inv.0 ∙ unlisted-listed _ c.in-Some.key.now c.next.new.self h, inv.1.1)

pub returns-then-not-is_listed : goal.returns-then-not-is_listed
unfolding only IsStrictlySortedBy
returns-then-not-is_listed c =
    let t = rest_more deref _ _ _ c.in-Some.key c.in-Some.is c.next.ensures.steps in
    let inv = rw t at c.loop-key.invariant in
    let h : list_any (bytes_eq (string_bytes c.in-Some.key.now)) (map (λ (t : Bor (List ℕ)). t.now) c.args.listed.now) ≡ false = list_any-map (bytes_eq (string_bytes c.in-Some.key.now)) (λ (t : Bor (List ℕ)). t.now) c.args.listed.now ∙ ap (λ (k : List ℕ). list_any (λ (l : Bor (List ℕ)). bytes_eq k l.now) c.args.listed.now) (sym c.as_str.ensures.value) ∙ sym c.is_listed.ensures ∙ c.if-not-is_listed.true in
    let first = ap least inv.0 ∙ least-first _ c.in-Some.key.now c.next.new.self h inv.1.0 in
    let e : shown (string_bytes c.in-Some.key.now) ≡ c.as_str-then-not-is_listed-2.result.now = cc (c.in_ok-shown.ensures) in
    fails_at c.refuse.result (UnknownKey, key_path (place_text c.args.path.now) c.as_str-then-not-is_listed-2.result.now) _ (rw (first, e) refl) c.refuse.ensures
