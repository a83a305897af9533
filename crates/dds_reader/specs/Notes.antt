-- What a reader notes of each of its writers: the greatest last number heard, and whether it owes an ACKNACK.
use Rattle.std.specs.Prelude.{ℕ, max, Bool, true, false, ◌==◌, List, [], ◌∷◌, map, if◌then◌else◌}
use Rattle.std.specs.List.{list_any}
use Rattle.dds_reader.specs.declared.notes.WriterProxy.{WriterProxy}

-- the list has the writer
abbrev pub has_writer : ℕ → List WriterProxy → Bool
has_writer w ps = list_any (λ p. p.writer == w) ps

-- the greatest last number heard from a writer, 0 for one that the list hasn't
abbrev pub heard_in : ℕ → List WriterProxy → ℕ
heard_in w [] = 0
heard_in w (p ∷ ps) = if p.writer == w then p.heard else heard_in w ps

-- an ACKNACK is owed to a writer, never to one that the list hasn't
abbrev pub owes_in : ℕ → List WriterProxy → Bool
owes_in w [] = false
owes_in w (p ∷ ps) = if p.writer == w then p.owes else owes_in w ps

-- the notes at the opening: nothing is heard, nothing owed
abbrev pub opened : List ℕ → List WriterProxy
opened ws = map (λ w. record { writer = w; heard = 0; owes = false }) ws

-- one note after a HEARTBEAT of w with this last number: the greater is noted, and an ACKNACK is owed
abbrev pub hears_one : ℕ → ℕ → WriterProxy → WriterProxy
hears_one w last p = if p.writer == w then record { writer = p.writer; heard = max p.heard last; owes = true } else p

-- all notes after a HEARTBEAT of w with this last number
abbrev pub hears : ℕ → ℕ → List WriterProxy → List WriterProxy
hears w last ps = map (hears_one w last) ps

-- one note after an ACKNACK to w: none is owed
abbrev pub pays_one : ℕ → WriterProxy → WriterProxy
pays_one w p = if p.writer == w then record { writer = p.writer; heard = p.heard; owes = false } else p

-- all notes after an ACKNACK to w
abbrev pub pays : ℕ → List WriterProxy → List WriterProxy
pays w ps = map (pays_one w) ps
