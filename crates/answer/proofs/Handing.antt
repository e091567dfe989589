-- What a `?` hands on is the refusal that it met. Assumes nothing.
use mathlib.Core.Path.{◌≡◌, ◌∙◌, ap}
use Rattle.std.specs.Result.{IsErr, IsErrAnd}
use Rattle.std.specs.declared.result.Result.{Result}
use Rattle.std.specs.declared.result.Result.TheVariants.{Err}
use Rattle.std.proofs.lemmas.Result.{err_from_is_err_and}

pub handed : {T E : Type 0} {w : E} {r : Result T E} → IsErr r × IsErrAnd r (λ y. y ≡ w) → r ≡ Err w
handed {r = r} e = let p = err_from_is_err_and r e.1 in p.1 ∙ ap Err p.2
