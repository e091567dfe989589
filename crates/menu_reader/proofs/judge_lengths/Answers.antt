-- `menu_reader::judge_lengths` meets its contract: each `return` is the rule with one of its parts that doesn't hold, and the last is all of them.
-- Assumes nothing.
use mathlib.Core.Path.{◌∙◌, sym, ap, subst}
use mathlib.Core.List.{List, map}
use Prim.Native.Nat.{ℕ, ◌<◌}
use native.Mathlib.Omega.{arith}
use Rattle.std.specs.declared.result.Result.TheVariants.{Ok}
use Rattle.octet.specs.Decoding.{nib}
use Rattle.menu_reader.specs.Control.{sent_of, menu_of}
use Rattle.kinds.specs.Reading.{code_of}
use Rattle.menu_reader.proofs.Found.{control-spelled, size-spelled, header_read}
use Rattle.menu_reader.proofs.Walked.{control-at}
use Rattle.menu_reader.proofs.Judging.{lengths-header, lengths-control, lengths-size, lengths-done}
use Rattle.menu_reader.proofs.judge_lengths.Goals as goal

pub returns-then-field_of-gt2 : goal.returns-then-field_of-gt2
returns-then-field_of-gt2 c =
    let a = c.args in
    let ns : List ℕ = map nib a.control.now in
    let cs : List ℕ = map code_of a.strings.now in
    let s = c.spell-s.ensures.0 in
    let lines = c.field_of.ensures.0 ∙ header_read ns cs in
    c.refuse.ensures ∙ sym (lengths-header _ (sent_of ns cs) _ (subst (λ (x : ℕ). 2 < x) lines (omega (arith, c.if-field_of-gt2.true))))

pub returns-then-field_of-s : goal.returns-then-field_of-s
returns-then-field_of-s c =
    let a = c.args in
    let ns : List ℕ = map nib a.control.now in
    let cs : List ℕ = map code_of a.strings.now in
    let s = c.spell-s.ensures.0 in
    let lines = c.field_of.ensures.0 ∙ header_read ns cs in
    let few : (menu_of ns cs).header_size < 3 = subst (λ (x : ℕ). x < 3) lines (omega (arith, c.if-field_of-gt2.false)) in
    c.refuse-then-field_of-s.ensures
    ∙ sym (lengths-control _ (sent_of ns cs) _ few (λ (e : _). c.if-field_of-s.true (c.field_of-2.ensures.0 ∙ sym (control-at ns cs) ∙ e ∙ sym (control-spelled s))))

pub overflow_add-s : goal.overflow_add-s
overflow_add-s c = omega (arith, c.spell-s.ensures.1)

pub returns-then-size-s : goal.returns-then-size-s
returns-then-size-s c =
    let a = c.args in
    let ns : List ℕ = map nib a.control.now in
    let cs : List ℕ = map code_of a.strings.now in
    let s = c.spell-s.ensures.0 in
    let lines = c.field_of.ensures.0 ∙ header_read ns cs in
    let few : (menu_of ns cs).header_size < 3 = subst (λ (x : ℕ). x < 3) lines (omega (arith, c.if-field_of-gt2.false)) in
    let said = control-at ns cs ∙ sym c.field_of-2.ensures.0 ∙ c.if-field_of-s.false ∙ control-spelled s in
    c.refuse-then-size-s.ensures ∙ sym (lengths-size _ (sent_of ns cs) _ few said (λ (e : _). c.if-size-s.true (e ∙ sym (size-spelled s))))

pub returns : goal.returns
returns c =
    let a = c.args in
    let ns : List ℕ = map nib a.control.now in
    let cs : List ℕ = map code_of a.strings.now in
    let s = c.spell-s.ensures.0 in
    let lines = c.field_of.ensures.0 ∙ header_read ns cs in
    let few : (menu_of ns cs).header_size < 3 = subst (λ (x : ℕ). x < 3) lines (omega (arith, c.if-field_of-gt2.false)) in
    let said = control-at ns cs ∙ sym c.field_of-2.ensures.0 ∙ c.if-field_of-s.false ∙ control-spelled s in
    ap Ok s.fills ∙ sym (lengths-done _ (sent_of ns cs) _ few said (c.if-size-s.false ∙ size-spelled s))
