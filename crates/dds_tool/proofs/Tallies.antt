-- How much a seat did, by the entries of a journal.
use Rattle.std.proofs.Common.{◌≡◌, ◌&&◌, ◌∙◌, ℕ, Bool, true, false, eqb, List, [], ◌∷◌, filter, length, suc, refl, ap}
use Rattle.std.specs.List.{count_by}
use Rattle.std.proofs.lemmas.List.Sums.{length-filter}
use Rattle.dds_base.specs.declared.events.Event.{Event}
use Rattle.dds_base.specs.declared.events.Reply.{Reply}
use Rattle.dds_book.specs.declared.entry.Entry.{Entry}
use Rattle.dds_apps.specs.Kept.{entries_of}

-- the entry is the seat's, and passes
abbrev pub is_own : (Event × Reply → Bool) → ℕ → Entry → Bool
is_own p seat e = eqb e.seat seat && p (e.event, e.reply)

-- as many entries of the seat pass as of its part of the journal
passed : (p : Event × Reply → Bool) (seat : ℕ) (entries : List Entry) → length (filter (is_own p seat) entries) ≡ length (filter p (entries_of seat entries))
passed p seat [] = refl
passed p seat (e ∷ entries) = by (eqb e.seat seat) refl (p (e.event, e.reply)) refl (passed p seat entries)
  where
    by : (b : Bool) → eqb e.seat seat ≡ b → (d : Bool) → p (e.event, e.reply) ≡ d → length (filter (is_own p seat) entries) ≡ length (filter p (entries_of seat entries))
        → length (filter (is_own p seat) (e ∷ entries)) ≡ length (filter p (entries_of seat (e ∷ entries)))
    by true is true passes rest = rw (is, passes) (ap suc rest)
    by true is false passes rest = rw (is, passes) rest
    by false is d passes rest = rw is rest

-- so many of them are counted
pub own_counted : (p : Event × Reply → Bool) (seat : ℕ) (entries : List Entry) → length (filter (is_own p seat) entries) ≡ count_by p (entries_of seat entries)
own_counted p seat entries = passed p seat entries ∙ length-filter p (entries_of seat entries)
