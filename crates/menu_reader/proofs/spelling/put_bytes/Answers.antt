-- `menu_reader::spelling::put_bytes` meets its contract: the lowest bytes are the first that std gives. Assumes nothing.
use mathlib.Core.Path.{◌∙◌, ap}
use mathlib.Core.List.{List}
use Prim.Native.Nat.{ℕ}
use lib.ListN.{take}
use lib.Seq.{sets}
use Rattle.menu_reader.proofs.Rows.{bytes-taken}
use Rattle.menu_reader.proofs.spelling.put_bytes.Goals as goal

pub returns : goal.returns
returns c =
    let a = c.args in
    c.copy.ensures
    ∙ ap (λ (l : List ℕ). sets a.out.now a.to l) (ap (take a.k) c.to_le_bytes.ensures ∙ bytes-taken a.k a.v c.requires.0)
