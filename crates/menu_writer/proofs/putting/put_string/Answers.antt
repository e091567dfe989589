-- `menu_writer::putting::put_string` meets its contract: the codes behind the escapes. Assumes nothing.
use mathlib.Core.Path.{◌≡◌, ◌∙◌, sym, ap}
use mathlib.Core.List.{List, map}
use Prim.Native.Nat.{ℕ, ◌+◌}
use native.Mathlib.Omega.{arith}
use lib.ListN.{length, drop}
use lib.Seq.{sets}
use Rattle.parity.specs.Parity.{letter}
use Rattle.menu_forms.specs.Form.{codes_in, text_in}
use Rattle.menu_writer.specs.declared.Loop.TheVariants.{Codes}
use Rattle.menu_writer.specs.Internal.{loop_bytes}
use Rattle.menu_writer.proofs.Listed.{codes_bytes, codes-length}
use Rattle.menu_writer.proofs.Texts.{text-end, text_codes}
use Rattle.menu_writer.proofs.putting.put_string.Goals as goal

pub returns : goal.returns
returns c =
    let a = c.args in
    let f : List ℕ = a.form.now in
    let e = c.byte_at-escapes in
    let n = c.byte_at-codes in
    let p = c.pass-a in
    let s = c.put_entries in
    let sent : loop_bytes Codes n.result (drop p.result.end f) ≡ map letter (text_in (drop a.at f)).codes =
    sym (codes_bytes n.result (drop p.result.end f))
    ∙ ap (λ (z : ℕ). map letter (codes_in n.result (drop z f))) p.ensures.0
    ∙ sym (ap (map letter) (text_codes f a.at e.result n.result e.ensures.0 n.ensures.0)) in (
      s.ensures.0 ∙ ap (λ (k : ℕ). p.result.end + k) (codes-length n.result (drop p.result.end f))
          ∙ text-end f a.at e.result n.result e.ensures.0 n.ensures.0 p.result.end p.ensures.0,
      s.ensures.1 ∙ ap (λ (l : List ℕ). a.to + length l) sent,
      omega (arith, p.ensures.2, s.ensures.2, e.ensures.1, n.ensures.1),
      omega (arith, s.ensures.3, n.ensures.1),
      s.ensures.4 ∙ ap (λ (l : List ℕ). sets a.out.now a.to l) sent,
    )
