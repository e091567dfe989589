-- A reading call and the outcome that is exact, for any kind: given room, the call is accepted as a value, with a count, exactly when the
-- record says it and has that count. Assumes nothing.
use mathlib.Core.Path.{◌≡◌, ◌∙◌, ap}
use mathlib.Core.Bool.{true}
use mathlib.Core.List.{List, ◌++◌}
use Prim.Native.Nat.{ℕ, ◌^◌, ◌≤◌, ◌<◌}
use lib.ListN.{length, drop}
use Rattle.std.specs.declared.result.Result.TheVariants.{Ok}
use Rattle.laws.specs.Bytes.{Bytes}
use Rattle.answer.specs.Writing.{answered, left}
use Rattle.blocks.specs.Taking.{Read}
use Rattle.blocks.specs.Taking.{taken}
use Rattle.blocks.specs.Values.{counted}
use Rattle.blocks.proofs.Counting.{counted-takes, counted-all}
use Rattle.kinds.specs.Kind.{Kind, Content, fill, fits}
use Rattle.kinds.specs.Block.{record_with, Means}
use Rattle.kinds.specs.Reading.{mended_of, content_in, read_rules}
use Rattle.kinds.proofs.Fronts.{Owed}
use Rattle.kinds.proofs.Exact.{rules-mean, means-rules, value-meant}
use Rattle.kinds.proofs.Written.{with_none, record-means}

module _ {B : Type 0} (k : Kind B) (o : Owed k) {A : Type 0} (value : Content B → A) (form : A → List ℕ) where
  -- the value that the call finds in a record
  abbrev pub found : List ℕ → A
  found r = value (content_in k (drop 4 r))

  module _ (application : ℕ) (r old : List ℕ) where
    -- what the call answers, and what it leaves of the output
    abbrev pub call_reads : Read
    call_reads = counted (mended_of k.spoken r) (answered (read_rules k application r) (form (found r)) old)

    abbrev pub call_leaves : List ℕ
    call_leaves = left (read_rules k application r) (form (found r)) old

    -- a record that says v, with room: v's form stands at the front of the output, and the count is its own
    pub call-takes :
        (v : A) → Means k value application r v → length (form v) ≤ length old
        → (call_reads ≡ Ok (taken (length (form v)) (mended_of k.spoken r))) × (call_leaves ≡ form v ++ drop (length (form v)) old)
    call-takes v s h =
        counted-takes form (read_rules k application r) (found r) (mended_of k.spoken r) old v (means-rules k o value application r v s)
        (value-meant k o value application r v s) h

    -- a record that the call accepts says the value whose form it hands out, and the count is its own
    pub call_says :
        (n m : ℕ) → (k.spoken ≡ true → Bytes r) → call_reads ≡ Ok (taken n m)
        → Means k value application r (found r)
        × (n ≡ length (form (found r)))
        × (m ≡ mended_of k.spoken r)
        × (call_leaves ≡ form (found r) ++ drop (length (form (found r))) old)
    call_says n m b e =
        let a = counted-all form (read_rules k application r) (found r) (mended_of k.spoken r) old n m e in
        (rules-mean k o value application r b a.0, a.1, a.2, a.3)

  -- a content that can be sent, written and read again by a call with room: its value's form comes back, with nothing mended
  pub call_back :
      (application filling : ℕ) (c : Content B) (old : List ℕ) → application < 32 → fits k c ≡ true → filling < 2 ^ fill k c
      → length (form (value c)) ≤ length old
      → (call_reads application (record_with k application filling c) old ≡ Ok (taken (length (form (value c))) 0))
      × (call_leaves application (record_with k application filling c) old ≡ form (value c) ++ drop (length (form (value c))) old)
  call_back application filling c old a f g h =
      let p =
      call-takes application (record_with k application filling c) old (value c) (record-means k application filling c o a f g value) h in
      (p.0 ∙ ap (λ (x : ℕ). Ok (taken (length (form (value c))) x)) (with_none k application filling c o a f g), p.1)
