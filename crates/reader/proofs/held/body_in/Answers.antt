-- `reader::held::body_in` meets its contract: it copies all that the block wants, or all that there is. Assumes nothing.
use mathlib.Core.Path.{◌≡◌, ◌∙◌, sym, ap}
use mathlib.Core.Logic.{inl, inr}
use Prim.Native.Nat.{◌-◌, ◌/◌}
use native.Mathlib.Omega.{arith}
use native.Mathlib.Decide.{dec_lt}
use lib.ListN.{length, take, drop, length-drop}
use lib.Seq.{sets, take_all}
use Rattle.laws.proofs.Lists.{part-rest}
use Rattle.walk.proofs.Keeping.{body-fits, body_took}
use Rattle.reader.proofs.held.body_in.Goals as goal

pub returns : goal.returns
returns c =
    let a = c.args in
    let k = c.requires.kept in
    let s = a.s.now in
    let need = a.head / 32 - a.held in
    let there = length s - a.from in
    elim (dec_lt need there) [
      | yes h ↦
          let e : c.min-took.result ≡ need = omega arith in
          rw e (body_took s a.from need k (omega arith) (omega (arith, body-fits k)) (inl (omega (arith, body-fits k))) c.copy.ensures)
      | no h ↦
          let e : c.min-took.result ≡ there = omega arith in
          let f : take need (drop a.from s) ≡ take there (drop a.from s)
          = take_all need (drop a.from s) (rw length-drop (omega arith)) ∙ sym (part-rest a.from s) in
          rw e (body_took s a.from there k (omega arith) (omega (arith, body-fits k)) (inr (omega arith)) (c.copy.ensures ∙ ap (sets a.store.now a.held) f))
    ]
