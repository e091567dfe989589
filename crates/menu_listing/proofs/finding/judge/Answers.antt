-- `menu_listing::finding::judge` meets its contract: the number first, then what reading says. Assumes nothing.
use mathlib.Core.Path.{◌∙◌, sym, ap}
use mathlib.Core.List.{List}
use Prim.Native.Nat.{ℕ}
use native.Mathlib.Omega.{arith}
use borrow.Author.Tests.{ne_eqb}
use Rattle.laws.proofs.Lists.{part-rest}
use Rattle.fields.specs.Fields.{field}
use Rattle.fields.specs.Compound.{compound}
use Rattle.laws.specs.Bytes.{Bytes}
use Rattle.menu_reader.specs.Reading.{mended_control}
use Rattle.menu_listing.proofs.Records.{judged-other, judged-read}
use Rattle.menu_listing.proofs.finding.judge.Goals as goal

pub returns-then-field_of-number : goal.returns-then-field_of-number
returns-then-field_of-number c =
    let s = c.args in
    let r : List ℕ = s.rec.now in
    let w = c.read_menu in
    let bytes : Bytes r = λ (i : ℕ). omega (arith, c.type_inv.rec i) in
    let n = c.field_of.ensures.0 ∙ ap (λ (l : List ℕ). field 28 16 (compound l)) (part-rest 4 r) in
    judged-read s.application s.number r w.new.out bytes s.form.now (mended_control r) w.result c.is_ok.result w.ensures.answer c.is_ok.ensures.value
    (sym n ∙ c.if-field_of-number.true) w.ensures.output c.requires.1

pub returns-else-field_of-number : goal.returns-else-field_of-number
returns-else-field_of-number c =
    let s = c.args in
    let r : List ℕ = s.rec.now in
    let bytes : Bytes r = λ (i : ℕ). omega (arith, c.type_inv.rec i) in
    let n = c.field_of.ensures.0 ∙ ap (λ (l : List ℕ). field 28 16 (compound l)) (part-rest 4 r) in
    rw (ne_eqb c.field_of.result s.number c.if-field_of-number.false)
    (judged-other s.application s.number r _ bytes (λ e. c.if-field_of-number.false (n ∙ e)))
