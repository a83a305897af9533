-- Steps of the world and of the notes, where the parts and the reply go by other names.
use Rattle.std.proofs.Common.{◌≡◌, refl, sym, subst}
use Rattle.dds_base.specs.declared.events.Reply.TheVariants.{Refused}
use Rattle.dds_runs.specs.Steps.{Event, Refusal, Reply}
use Rattle.dds_domain.specs.Standing.{PartsState, StepsNotes, StepsWorld}

-- what relates parts to later ones, where all of them go by other names
pub renamed : {A : Type 0} (R : PartsState → A → PartsState → Type 0) (old old' : PartsState) (a a' : A) (new new' : PartsState) → old ≡ old' → a' ≡ a → new' ≡ new → R old a new → R old' a' new'
renamed R old old' a a' new new' olds others news step = subst (λ z. R z a' new') olds (subst (λ q. R old q new') (sym others) (subst (R old a) (sym news) step))

-- a step of both
abbrev pub Steps : Event → PartsState → Reply → PartsState → Type 0
Steps e old reply new = StepsWorld old e reply new × StepsNotes old e reply new

pub steps_as : (e : Event) (old old' : PartsState) (reply reply' : Reply) (new new' : PartsState) → old ≡ old' → reply' ≡ reply → new' ≡ new → Steps e old reply new → Steps e old' reply' new'
steps_as e = renamed (Steps e)

-- a refusal leaves all notes as they were
pub refused_kept : (d : PartsState) (e : Event) (why : Refusal) → StepsNotes d e (Refused why) d
unfolding StepsNotes
refused_kept d e why net v noted known reached s h = h

-- a step that is refused
pub refused_as : (e : Event) (why : Refusal) (d old new : PartsState) → d ≡ old → new ≡ d → StepsWorld d e (Refused why) d → Steps e old (Refused why) new
refused_as e why d old new olds news step = steps_as e d old _ _ d new olds refl news (step, refused_kept d e why)

-- one that is refused at once
pub refused_now : (e : Event) (why : Refusal) (d old : PartsState) → d ≡ old → StepsWorld d e (Refused why) d → Steps e old (Refused why) old
refused_now e why d old olds = refused_as e why d old old olds (sym olds)
