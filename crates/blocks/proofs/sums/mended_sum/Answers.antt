-- The answers that `blocks::sums::mended_sum` wants beside its invariants. Assumes nothing.
use borrow.Author.Rules.{rules}
use mathlib.Core.Path.{◌≡◌, ◌∙◌, ap}
use mathlib.Core.List.{List, map}
use Prim.Native.Nat.{ℕ, ◌+◌, ◌%◌, ◌<◌}
use native.Mathlib.Nat.{zero-add}
use native.Mathlib.Omega.{arith}
use lib.ListN.{length, drop, get_or, length-map}
use Rattle.laws.proofs.Maps.{map-drop}
use Rattle.octet.specs.Decoding.{nib}
use Rattle.octet.proofs.Laws.{entry_at}
use Rattle.blocks.specs.Sums.{total, sound}
use Rattle.blocks.proofs.Summing.{sound_le, sound_two, sound-step, sound-short, sound-all, sum_step, sum-end, checksum_lt}
use Rattle.blocks.proofs.sums.mended_sum.Goals as goal

pub returns-then-sound-body : goal.returns-then-sound-body
returns-then-sound-body c =
    let e = c.sound.ensures in
    record {
      broken = (λ _. omega (arith, e, c.if-sound-body.true));
      whole = (λ h. absurd (omega (arith, h)));
      most = search rules;
    }

pub returns-then-body-lt2 : goal.returns-then-body-lt2
returns-then-body-lt2 c =
    let a = c.args in
    let s = map nib a.body.now in
    let small = checksum_lt a.head s in
    let e = c.checksum.ensures in
    let all : sound s ≡ length a.body.now =
    omega (arith, c.if-sound-body.false, c.sound.ensures, sound_le s, length-map a.body.now nib) in
    record {
      broken = (λ h. absurd (omega (arith, h, e, small)));
      whole = (λ _. (all, e));
      most = omega (arith, e, small);
    }

pub returns-then-decode-gt15 : goal.returns-then-decode-gt15
returns-then-decode-gt15 c =
    let s : List ℕ = c.args.body.now in
    let e : 15 < nib (get_or s 0 0) = omega (arith, c.decode.ensures, c.if-decode-gt15.true) in
    record {
      broken = (λ _. sound-short s 0 (zero-add _) (search rules) e);
      whole = (λ h. absurd (omega (arith, h)));
      most = search rules;
    }

pub returns-then-decode-gt15-2 : goal.returns-then-decode-gt15-2
returns-then-decode-gt15-2 c =
    let s : List ℕ = c.args.body.now in
    let d : nib (get_or s 0 0) < 16 = omega (arith, c.decode.ensures, c.if-decode-gt15.false) in
    let e : 15 < nib (get_or s 1 0) = omega (arith, c.decode-2.ensures, c.if-decode-gt15-2.true) in
    record {
      broken = (λ _. sound-short s 1 (sound-step s 0 (search rules) d ∙ zero-add _) (search rules) e);
      whole = (λ h. absurd (omega (arith, h)));
      most = search rules;
    }

pub loop-i-init : goal.loop-i-init
loop-i-init c =
    let s : List ℕ = c.args.body.now in
    let d : nib (get_or s 0 0) < 16 = omega (arith, c.decode.ensures, c.if-decode-gt15.false) in
    let e : nib (get_or s 1 0) < 16 = omega (arith, c.decode-2.ensures, c.if-decode-gt15-2.false) in (
      search rules,
      c.head_total-sum.ensures.1,
      ap (λ (x : ℕ). (x + total (map nib (drop 2 s))) % 256) c.head_total-sum.ensures.0 ∙ rw map-drop,
      sound_two s (search rules) d e,
    )

pub overflow_cast-n : goal.overflow_cast-n
overflow_cast-n c = omega (arith, c.type_inv.body c.loop-i.i)

pub bounds-table-body : goal.bounds-table-body
bounds-table-body c = omega (arith, c.type_inv.body c.loop-i.i)

pub returns-then-n-gt15 : goal.returns-then-n-gt15
returns-then-n-gt15 c =
    let l = c.loop-i in
    let s : List ℕ = c.args.body.now in
    let t = c.decodings-table in
    let n = entry_at t.result t.ensures (get_or s l.i 0) (c.type_inv.body l.i).fits in
    let e : 15 < nib (get_or s l.i 0) = omega (arith, n, c.if-n-gt15.true) in
    record {
      broken = (λ _. sound-short s l.i l.invariant.3 (search rules) e);
      whole = (λ h. absurd (omega (arith, h)));
      most = search rules;
    }

pub loop-i-preserved : goal.loop-i-preserved
loop-i-preserved c =
    let l = c.loop-i in
    let s : List ℕ = c.args.body.now in
    let t = c.decodings-table in
    let n = entry_at t.result t.ensures (get_or s l.i 0) (c.type_inv.body l.i).fits in
    let e : nib (get_or s l.i 0) < 16 = omega (arith, n, c.if-n-gt15.false) in (
      search rules,
      search rules,
      ap (λ (x : ℕ). ((l.sum + x) % 256 + total (map nib (drop (l.i + 1) s))) % 256) n
          ∙ sum_step s l.i l.sum (search rules)
          ∙ l.invariant.2,
      sound-step s l.i (search rules) e ∙ l.invariant.3,
    )

pub returns : goal.returns
returns c =
    let l = c.loop-i in
    let a = c.args in record {
      broken = (λ h. absurd (omega (arith, h)));
      whole = (λ _. (
        sound-all a.body.now l.i l.invariant.3 l.invariant.0 (search rules),
        sum-end a.head a.body.now l.i l.sum (search rules) l.invariant.1 l.invariant.2,
      ));
      most = search rules;
    }
