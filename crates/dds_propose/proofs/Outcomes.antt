-- What holds of the value of an Ok.
use Rattle.std.proofs.Common.{Result, Ok, Err, IfOk}

pub both_ok : {A E : Type 0} (r : Result A E) (P Q R : A → Type 0) → IfOk r P → IfOk r Q → ((x : A) → P x → Q x → R x) → IfOk r R
both_ok (Ok x) P Q R p q both = both x p q
both_ok (Err e) P Q R p q both = tt
