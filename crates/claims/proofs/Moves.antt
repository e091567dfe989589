-- The promises of `up` and `down` of the calls themselves, from their contracts alone: there and back are the same bytes; sheets that join in the old
-- form join in the new one, to the moved sheet; and a sheet that has the other form already is refused as any reader of its form refuses it.
-- Assumes nothing.
use mathlib.Core.Path.{◌≡◌, ◌∙◌, refl, sym, ap, ap₂}
use mathlib.Core.List.{List, [], ◌∷◌, ◌++◌}
use Prim.Native.Nat.{ℕ, ◌≤◌, ◌<◌}
use native.Mathlib.Omega.{arith}
use lib.ListN.{length, take, drop}
use lib.Seq.{take-append_seam}
use borrow.Author.Tests.{le-leb, lt-leb}
use Rattle.std.specs.declared.result.Result.TheVariants.{Ok}
use Rattle.answer.specs.Answer.{Answer}
use Rattle.answer.specs.Rules.{Rule, Every}
use Rattle.answer.specs.Values.{refused}
use Rattle.answer.specs.Writing.{answered, left}
use Rattle.answer.proofs.Lent.{lent-accepted, lent-all}
use Rattle.sheet_entry.specs.declared.Form.TheVariants.{Old, New}
use Rattle.sheet_entry.specs.Entries.{Entry}
use Rattle.day_sheet.specs.Entries.{sheet_text, byte_limit}
use Rattle.day_sheet.specs.Calls.{entries_of}
use Rattle.sheet_joins.specs.Calls.{join_rules, join_result}
use Rattle.day_sheet.specs.Reading.{InForm}
use Rattle.sheet_moves.specs.Moving.{up_rules, up_text, down_rules, down_text}
use Rattle.sheet_joins.proofs.Accepting.{its_bytes}
use Rattle.sheet_moves.proofs.Moved as moved
use Rattle.claims.proofs.MovedJoined as joined
use Rattle.claims.specs.Calls.{reported}
use Rattle.claims.specs.Sheets.{JoinsSheets, Accepted, behind_stamp}
use Rattle.claims.specs.Moves.{MovesUp, move_up, MovesDown, move_down}
use Rattle.claims.proofs.Sheets.{joins_sheets}
use Rattle.claims.proofs.OtherForm.{read-fault}
use Rattle.claims.proofs.Happening.{lend, lend_out}

-- ---- what each call says

ups : {old lent out : List ℕ} {x : Answer} → MovesUp old lent x out → (x ≡ answered (up_rules old) (up_text old) lent) × (out ≡ left (up_rules old) (up_text old) lent)
ups (move_up κs a x t post) = post

downs :
    {new lent out : List ℕ} {x : Answer} → MovesDown new lent x out → (x ≡ answered (down_rules new) (down_text new) lent) × (out ≡ left (down_rules new) (down_text new) lent)
downs (move_down κs a x t post) = post

-- of any call that writes by rules: where they hold and there is room, it reports its bytes
module _ (rules : List Rule) (bytes lent : List ℕ) {out : List ℕ} {x : Answer} (a : x ≡ answered rules bytes lent) (b : out ≡ left rules bytes lent) where
  done : Every rules → length bytes ≤ length lent → (x ≡ Ok (length bytes)) × (reported x out ≡ bytes)
  done every big =
      let d = lent-accepted rules bytes lent every big in
      let e = a ∙ d.0 in
      (e, ap₂ reported e (b ∙ d.1) ∙ take-append_seam bytes (drop (length bytes) lent))

  -- and where it was accepted, they hold
  holds : Accepted x → Every rules × (reported x out ≡ bytes)
  holds (n, d) =
      let e = sym a ∙ d in
      ((lent-all rules bytes lent n e).0, ap₂ reported d b ∙ its_bytes rules bytes lent n e)

-- ---- there and back

-- of two calls that write by rules, the second of what the first reported: where the second's text of the first's is the sheet again, it gives those bytes
back :
    (rules rules' : List ℕ → List Rule) (text text' : List ℕ → List ℕ) (s lent lent' : List ℕ) {out out' : List ℕ} {x y : Answer}
    → x ≡ answered (rules s) (text s) lent → out ≡ left (rules s) (text s) lent → Accepted x
    → y ≡ answered (rules' (reported x out)) (text' (reported x out)) lent' → out' ≡ left (rules' (reported x out)) (text' (reported x out)) lent'
    → (Every (rules s) → Every (rules' (text s)) × (text' (text s) ≡ s)) → length s ≤ length lent' → (y ≡ Ok (length s)) × (reported y out' ≡ s)
back rules rules' text text' s lent lent' {out} {out'} {x} {y} a b d a' b' law big =
    let h = holds (rules s) (text s) lent a b d in
    let m = law h.0 in
    let e : y ≡ answered (rules' (text s)) (text' (text s)) lent' = rw h.1 at a' in
    let f : out' ≡ left (rules' (text s)) (text' (text s)) lent' = rw h.1 at b' in
    let l = ap length m.1 in
    let r = done (rules' (text s)) (text' (text s)) lent' e f m.0 (omega arith) in
    (r.0 ∙ ap (λ (t : List ℕ). Ok (length t)) m.1, r.1 ∙ m.1)

-- what `up` writes, `down` takes, and gives the old bytes
pub up-then-down :
    {old lent out lent' out' : List ℕ} {x y : Answer} → MovesUp old lent x out → Accepted x → MovesDown (reported x out) lent' y out'
    → length old ≤ length lent' → (y ≡ Ok (length old)) × (reported y out' ≡ old)
up-then-down {old} {lent} {lent' = lent'} call d call' =
    let c = ups call in
    let e = downs call' in
    back up_rules down_rules up_text down_text old lent lent' c.0 c.1 d e.0 e.1 (moved.up-down old)

-- where `down` is accepted, `up` gives the new bytes
pub down-then-up :
    {new lent out lent' out' : List ℕ} {x y : Answer} → MovesDown new lent x out → Accepted x → MovesUp (reported x out) lent' y out'
    → length new ≤ length lent' → (y ≡ Ok (length new)) × (reported y out' ≡ new)
down-then-up {new} {lent} {lent' = lent'} call d call' =
    let c = downs call in
    let e = ups call' in
    back down_rules up_rules down_text up_text new lent lent' c.0 c.1 d e.0 e.1 (moved.down-up new)

-- no result of `up` has over 16,960 bytes
pub up-short : {old lent out : List ℕ} {x : Answer} → MovesUp old lent x out → Accepted x → length (reported x out) ≤ 16960
up-short {old} {lent} call d =
    let c = ups call in
    let h = holds (up_rules old) (up_text old) lent c.0 c.1 d in
    let l = (moved.up-long old h.0).1 in
    let e = ap length h.1 in
    omega arith

-- ---- joined

-- where `join` takes two sheets of the old form, `up` takes both, and what it writes of them `join` takes in the new form, and writes what `up` writes of
-- the joined sheet; each call with an output as long as the new limit
pub joined-ups :
    {first second lent out : List ℕ} {x : Answer} → JoinsSheets Old first second lent x out → Accepted x
    → {lent₁ out₁ lent₂ out₂ lent₃ out₃ lent₄ out₄ : List ℕ} {a b c d : Answer} → MovesUp first lent₁ a out₁ → MovesUp second lent₂ b out₂
    → MovesUp (reported x out) lent₃ c out₃ → JoinsSheets New (reported a out₁) (reported b out₂) lent₄ d out₄ → byte_limit New ≤ length lent₁
    → byte_limit New ≤ length lent₂ → byte_limit New ≤ length lent₃ → byte_limit New ≤ length lent₄
    → Accepted a × Accepted b × Accepted c × Accepted d × (reported d out₄ ≡ reported c out₃)
joined-ups {first} {second} {lent} call acc {lent₁ = lent₁} {lent₂ = lent₂} {lent₃ = lent₃} {lent₄ = lent₄} {out₄ = out₄} {d = d} one two three four l₁ l₂ l₃ l₄ =
    let j = joins_sheets call in
    let h = holds (join_rules Old first second) (sheet_text Old (join_result Old first second)) lent j.0 j.1 acc in
    let sheet : List ℕ = sheet_text Old (join_result Old first second) in
    let p = joined.first-up first second h.0 in
    let q = joined.second-up first second h.0 in
    let r = joined.joined-up first second h.0 in
    let m = joined.ups-join first second h.0 in
    let u₁ = ups one in
    let u₂ = ups two in
    let u₃ = ups (rw h.1 at three) in
    let n₁ = (moved.up-long first p).1 in
    let n₂ = (moved.up-long second q).1 in
    let n₃ = (moved.up-long sheet r).1 in
    let d₁ = done (up_rules first) (up_text first) lent₁ u₁.0 u₁.1 p (omega arith) in
    let d₂ = done (up_rules second) (up_text second) lent₂ u₂.0 u₂.1 q (omega arith) in
    let d₃ = done (up_rules sheet) (up_text sheet) lent₃ u₃.0 u₃.1 r (omega arith) in
    let again : JoinsSheets New (up_text first) (up_text second) lent₄ d out₄ = rw (d₁.1, d₂.1) at four in
    let v = joins_sheets again in
    let n₄ = ap length m.1 in
    let d₄ = done (join_rules New (up_text first) (up_text second)) (sheet_text New (join_result New (up_text first) (up_text second))) lent₄ v.0 v.1 m.0 (omega arith) in
    ((_, d₁.0), (_, d₂.0), (_, d₃.0), (_, d₄.0), d₄.1 ∙ m.1 ∙ sym d₃.1)

-- ---- a sheet that has the other form already

-- `up` of a sheet of the new form with an entry: 21 where it is over the old limit, otherwise 20 at its first `mended=` line
pub up-other :
    (sheet : List ℕ) (e : Entry) (es : List Entry) → InForm New sheet → entries_of New sheet ≡ e ∷ es → {lent out : List ℕ} {x : Answer} → MovesUp sheet lent x out
    → (byte_limit Old < length sheet → x ≡ refused 21 0) × (length sheet ≤ byte_limit Old → x ≡ refused 20 (behind_stamp e))
unfolding up_rules
up-other sheet e es f has call = (
  λ h. (ups call).0 ∙ rw (lt-leb (length sheet) (byte_limit Old) h),
  λ h. (ups call).0 ∙ rw (le-leb (length sheet) (byte_limit Old) h, read-fault Old sheet e es f has),
)

-- `down` of one of the old form: 21 where it is over the new limit, otherwise 20 at its first `kind=` line
pub down-other :
    (sheet : List ℕ) (e : Entry) (es : List Entry) → InForm Old sheet → entries_of Old sheet ≡ e ∷ es → {lent out : List ℕ} {x : Answer} → MovesDown sheet lent x out
    → (byte_limit New < length sheet → x ≡ refused 21 0) × (length sheet ≤ byte_limit New → x ≡ refused 20 (behind_stamp e))
unfolding down_rules
down-other sheet e es f has call = (
  λ h. (downs call).0 ∙ rw (lt-leb (length sheet) (byte_limit New) h),
  λ h. (downs call).0 ∙ rw (le-leb (length sheet) (byte_limit New) h, read-fault New sheet e es f has),
)

-- ---- not empty

-- there are such calls, of whatever sheet and output
pub can_move_up : (old lent : List ℕ) → MovesUp old lent (answered (up_rules old) (up_text old) lent) (left (up_rules old) (up_text old) lent)
can_move_up old lent = move_up ([], ([], tt)) (lend old, (lend_out lent, tt)) _ (lend old, (lend_out _, tt)) (refl, refl)

pub can_move_down : (new lent : List ℕ) → MovesDown new lent (answered (down_rules new) (down_text new) lent) (left (down_rules new) (down_text new) lent)
can_move_down new lent = move_down ([], ([], tt)) (lend new, (lend_out lent, tt)) _ (lend new, (lend_out _, tt)) (refl, refl)
