-- The walk along a list of records: what is seen of its blocks goes on with the next. Assumes nothing.
use mathlib.Core.Path.{◌≡◌, ◌∙◌, sym, ap, ap₂}
use mathlib.Core.Bool.{true, false}
use mathlib.Core.List.{List, [], ◌∷◌}
use Prim.Native.Nat.{ℕ, suc, ◌+◌, ◌-◌, ◌*◌, ◌/◌, ◌%◌, ◌≤◌, ◌<◌}
use native.Mathlib.Omega.{arith}
use lib.ListN.{length, take, drop, length-drop, drop_of_length-le}
use Rattle.laws.specs.Bytes.{Bytes}
use Rattle.laws.proofs.Byted.{bytes_drop}
use Rattle.blocks.specs.Block.{size_of, record_of, record_length, begins, block_of, whole, blocks, whole_within, blocks_within}
use Rattle.blocks.proofs.Walking.{Standing, begins-head, blocks_at, blocks_not, whole_not}
use Rattle.broadcast.specs.declared.seeing.Seen.{Seen}
use Rattle.broadcast.specs.Counting.{seen, all_seen}
use Rattle.broadcast.specs.Lawful.{channel_after, channel_from}
use Rattle.broadcast.specs.Internal.{tally, tallied}

-- ---- whether these are whole records

pub whole-ended : (l : List ℕ) (p : ℕ) → p ≡ length l → true ≡ whole (drop p l)
unfolding whole_within
whole-ended l p e = let h : length l ≤ p = omega arith in rw (drop_of_length-le l h)

pub whole-broken : (l : List ℕ) (p : ℕ) → p ≤ length l → (p ≡ length l → ⊥) × (begins (drop p l) ≡ false) → false ≡ whole (drop p l)
whole-broken l p h b =
    let n : length (drop p l) ≡ 0 → ⊥ = λ e. b.0 (omega (arith, length-drop p l)) in
    sym (whole_not (drop p l) n b.1)

-- ---- one record

-- the record of the block that bytes begin with is what they begin with
pub record_again : (g : List ℕ) → Bytes g → begins g ≡ true → take (record_length g) g ≡ record_of (block_of g)
record_again (a ∷ b ∷ c ∷ d ∷ g) small h =
    let n = size_of (a + 256 * b) in
    let e : 4 + n ≡ suc (suc (suc (suc n))) = omega arith in
    let s : a < 256 = small 0 in
    let low : a ≡ (a + 256 * b) % 256 = omega arith in
    let high : b ≡ (a + 256 * b) / 256 = omega arith in
    rw e (ap₂ (λ (x y : ℕ). x ∷ y ∷ c ∷ d ∷ take n g) low high)
record_again [] small h = let k = begins-head [] h in absurd (omega arith)
record_again (a ∷ []) small h = let k = begins-head (a ∷ []) h in absurd (omega arith)
record_again (a ∷ b ∷ []) small h = let k = begins-head (a ∷ b ∷ []) h in absurd (omega arith)
record_again (a ∷ b ∷ c ∷ []) small h = let k = begins-head (a ∷ b ∷ c ∷ []) h in absurd (omega arith)

module _ (application : ℕ) where
  pub seen_step :
      {l : List ℕ} {p head raw next : ℕ} → Bytes l → Standing l p head raw next
      → all_seen application (blocks (drop p l)) ≡ seen application (take (next - p) (drop p l)) ∷ all_seen application (blocks (drop next l))
  unfolding all_seen
  seen_step {l} {p} {next = next} small s =
      let e : next - p ≡ record_length (drop p l) = omega (arith, s.its_next) in
      ap (all_seen application) (blocks_at s)
      ∙ ap (λ (r : List ℕ). seen application r ∷ all_seen application (blocks (drop next l)))
      (sym (rw e (record_again (drop p l) (bytes_drop p l small) s.whole_there)))

  pub seen-ended : (l : List ℕ) (p : ℕ) → p ≡ length l → all_seen application (blocks (drop p l)) ≡ []
  unfolding all_seen blocks_within
  seen-ended l p e = let h : length l ≤ p = omega arith in rw (drop_of_length-le l h)

  pub seen-broken : (g : List ℕ) → begins g ≡ false → all_seen application (blocks g) ≡ []
  unfolding all_seen
  seen-broken g b = ap (all_seen application) (blocks_not g b)

  -- what was seen of one moves the channel and the tally on
  module _ {l : List ℕ} {p head raw next : ℕ} (small : Bytes l) (s : Standing l p head raw next) {one : Seen} (e : one ≡ seen application (take (next - p) (drop p l))) where
    goes_on : all_seen application (blocks (drop p l)) ≡ one ∷ all_seen application (blocks (drop next l))
    goes_on = seen_step small s ∙ ap (λ (x : Seen). x ∷ all_seen application (blocks (drop next l))) (sym e)

    pub channel-on :
        (channel : ℕ) {after : ℕ} → after ≡ channel_after channel one
        → channel_from after (all_seen application (blocks (drop next l))) ≡ channel_from channel (all_seen application (blocks (drop p l)))
    unfolding channel_from
    channel-on channel k =
        ap (λ (n : ℕ). channel_from n (all_seen application (blocks (drop next l)))) k ∙ sym (ap (channel_from channel) goes_on)

    pub tally-on :
        (t : List ℕ) {u : List ℕ} → u ≡ tally t one
        → tallied u (all_seen application (blocks (drop next l))) ≡ tallied t (all_seen application (blocks (drop p l)))
    unfolding tallied
    tally-on t k = ap (λ (n : List ℕ). tallied n (all_seen application (blocks (drop next l)))) k ∙ sym (ap (tallied t) goes_on)
