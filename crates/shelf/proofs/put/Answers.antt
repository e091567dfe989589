-- `shelf::put` meets its contract: each return is one of the ways of `Puts`. Assumes nothing.
use mathlib.Core.Path.{◌≡◌, ◌∙◌, sym}
use mathlib.Core.Bool.{true}
use native.Mathlib.Omega.{arith}
use Rattle.shelf.proofs.Puts.{sized, sized-true, put-unsized, put-short, put_full, put-done}
use Rattle.shelf.proofs.put.Goals as goal

pub returns-then-not-is_sized : goal.returns-then-not-is_sized
returns-then-not-is_sized c =
    let a = c.args in
    let it = put-unsized a.form.now a.used a.heads.now a.shelf.now (sym c.is_sized.ensures ∙ c.if-not-is_sized.true)
    c.refuse.ensures in
    record { answer = it.0; heads = it.1.0; shelf = it.1.1 }

pub returns-then-form-lt-NUMBERED : goal.returns-then-form-lt-NUMBERED
returns-then-form-lt-NUMBERED c =
    let passed-c : (sized c.args.form.now c.args.used c.args.heads.now c.args.shelf.now
    ≡ true) = (sym c.is_sized.ensures ∙ c.if-not-is_sized.false) in
    let a = c.args in
    let it = put-short a.form.now a.used a.heads.now a.shelf.now passed-c (omega (arith, c.if-form-lt-NUMBERED.true))
    c.refuse-then-form-lt-NUMBERED.ensures in
    record { answer = it.0; heads = it.1.0; shelf = it.1.1 }

pub overflow_sub-shelf : goal.overflow_sub-shelf
overflow_sub-shelf c =
    let passed-c : (sized c.args.form.now c.args.used c.args.heads.now c.args.shelf.now
    ≡ true) = (sym c.is_sized.ensures ∙ c.if-not-is_sized.false) in
    let a = c.args in
    (sized-true a.form.now a.used a.heads.now a.shelf.now passed-c).within

pub returns-then-shelf-used : goal.returns-then-shelf-used
returns-then-shelf-used c =
    let passed-c : (sized c.args.form.now c.args.used c.args.heads.now c.args.shelf.now
    ≡ true) = (sym c.is_sized.ensures ∙ c.if-not-is_sized.false) in
    let a = c.args in
    let it = put_full a.form.now a.used a.heads.now a.shelf.now passed-c (omega (arith, c.if-form-lt-NUMBERED.false)) (omega (arith, c.if-shelf-used.true))
    c.refuse-then-shelf-used.ensures in
    record { answer = it.0; heads = it.1.0; shelf = it.1.1 }

pub put_entry-requires : goal.put_entry-requires
put_entry-requires c =
    let passed-c : (sized c.args.form.now c.args.used c.args.heads.now c.args.shelf.now
    ≡ true) = (sym c.is_sized.ensures ∙ c.if-not-is_sized.false) in
    let a = c.args in
    let e = sized-true a.form.now a.used a.heads.now a.shelf.now passed-c in
    (e.whole, e.most, omega (arith, c.if-form-lt-NUMBERED.false), omega (arith, e.within, c.if-shelf-used.false))

pub returns : goal.returns
returns c =
    let passed-c : (sized c.args.form.now c.args.used c.args.heads.now c.args.shelf.now
    ≡ true) = (sym c.is_sized.ensures ∙ c.if-not-is_sized.false) in
    let a = c.args in
    let e =
    put-done a.form.now a.used a.heads.now a.shelf.now passed-c (omega (arith, c.if-form-lt-NUMBERED.false)) (omega (arith, c.if-shelf-used.false)) in
    record {
      answer = e.0;
      heads = c.put_entry.ensures.heads ∙ e.1.0;
      shelf = c.put_entry.ensures.shelf ∙ e.1.1;
    }
