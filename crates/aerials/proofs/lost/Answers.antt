-- `aerials::lost` meets its contract, by its one test. Assumes nothing.
use native.Mathlib.Omega.{arith}
use Rattle.aerials.proofs.Counting.{lost_yes, lost_no}
use Rattle.aerials.proofs.lost.Goals as goal

pub returns-then-decode-eq16 : goal.returns-then-decode-eq16
returns-then-decode-eq16 c = lost_yes _ (omega (arith, c.decode.ensures))

pub returns-else-decode-eq16 : goal.returns-else-decode-eq16
returns-else-decode-eq16 c = lost_no _ (λ e. omega (arith, c.decode.ensures, e))
