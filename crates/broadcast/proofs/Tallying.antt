-- A tally has at each place how many were counted there, up to 256; so the rules say of it what they say of the blocks. Assumes nothing.
use mathlib.Core.Path.{◌≡◌, ◌∙◌, refl, sym, ap, ap₂}
use mathlib.Core.Bool.{Bool, true, false}
use mathlib.Core.List.{List, [], ◌∷◌}
use Prim.Native.Nat.{ℕ, zero, suc, ◌+◌, ◌≤◌, ◌<◌}
use native.Mathlib.Nat.{add-zero, zero-add}
use native.Mathlib.Omega.{arith}
use borrow.Author.Tests.{ltb-true, ltb-false, eqb-true, eqb-false, lt-leb, eq-eqb, ne_eqb}
use lib.Dec.{eqb, ltb, leb}
use lib.ListN.{length, get_or, drop, replicate, length-set, length-replicate, get_or-replicate}
use lib.Seq.{get_or-set_same, get_or-set_other}
use Rattle.laws.specs.Pick.{pick, both}
use Rattle.laws.specs.Range.{all}
use Rattle.laws.specs.Each.{Each, nil, and}
use Rattle.laws.proofs.Tests.{both-second}
use Rattle.fields.specs.Compound.{compound}
use Rattle.fields.proofs.Laid.{field_lt}
use Rattle.forms.specs.Kinds.{LI, TI}
use Rattle.blocks.specs.Block.{Block, head_length, record_of}
use Rattle.broadcast.specs.declared.seeing.Seen.{Seen}
use Rattle.broadcast.specs.Counting.{AI, MI, UI, has_kind, is_read, kind_of, network_of, unseen, seen, all_seen}
use Rattle.broadcast.specs.Lawful.{limit, each_within, minimum, verdict, one, number, number_of, channel_from, counted}
use Rattle.broadcast.specs.Internal.{more, noted, network_at, places, tally, tallied, counts_by}
use Rattle.broadcast.proofs.Networks.{network-read, network_lt}

-- a count as it is kept
abbrev pub capped : ℕ → ℕ
capped n = pick (ltb n 256) n 256

more-capped : (n : ℕ) → more (capped n) ≡ capped (n + 1)
more-capped n = go (ltb n 256) refl (ltb (n + 1) 256) refl
  where
    go : (a : Bool) → ltb n 256 ≡ a → (b : Bool) → ltb (n + 1) 256 ≡ b → more (capped n) ≡ capped (n + 1)
    go true ea true eb = rw (ea, eb, ea)
    go true ea false eb = let e : n + 1 ≡ 256 = omega (arith, ltb-true n 256 ea, ltb-false (n + 1) 256 eb) in rw (ea, eb, ea) e
    go false ea true eb = absurd (omega (arith, ltb-false n 256 ea, ltb-true (n + 1) 256 eb))
    go false ea false eb = rw (ea, eb)

module _ (t : List ℕ) (p n : ℕ) (h : p < length t) (k : get_or t p 0 ≡ capped n) where
  noted-at : (place : ℕ) → get_or (noted t place) p 0 ≡ capped (n + one (eqb place p))
  noted-at place = go (eqb place p) refl
    where
      go : (b : Bool) → eqb place p ≡ b → get_or (noted t place) p 0 ≡ capped (n + one b)
      go true e =
          let q = eqb-true place p e in
          rw q (get_or-set_same t p (more (get_or t p 0)) 0 h ∙ ap more k ∙ more-capped n)
      go false e = get_or-set_other t place p _ 0 (λ (x : p ≡ place). eqb-false place p e (sym x)) ∙ k ∙ (rw add-zero)

-- how often a place is counted
unfoldable hits : ℕ → List Seen → ℕ
hits p [] = 0
hits p (s ∷ ss) = one (eqb s.kind p) + one (eqb (network_at s.kind s.network) p) + hits p ss

tallied_at :
    (ss : List Seen) (t : List ℕ) (p n : ℕ) → p < length t → get_or t p 0 ≡ capped n
    → get_or (tallied t ss) p 0 ≡ capped (n + hits p ss)
unfolding tallied hits
tallied_at [] t p n h k = k ∙ (rw add-zero)
tallied_at (s ∷ ss) t p n h k =
    let first = noted-at t p n h k s.kind in
    let t₁ = noted t s.kind in
    let h₁ : p < length t₁ = omega (arith, length-set t s.kind (more (get_or t s.kind 0))) in
    let second = noted-at t₁ p (n + one (eqb s.kind p)) h₁ first (network_at s.kind s.network) in
    let h₂ : p < length (tally t s) = omega (arith, length-set t₁ (network_at s.kind s.network) (more (get_or t₁ (network_at s.kind s.network) 0))) in
    let all = tallied_at ss (tally t s) p (n + one (eqb s.kind p) + one (eqb (network_at s.kind s.network) p)) h₂ second in
    let added : n + one (eqb s.kind p) + one (eqb (network_at s.kind s.network) p) + hits p ss ≡ n + hits p (s ∷ ss) = omega arith in
    all ∙ ap capped added

-- ---- at the place of a kind, and at that of a kind and a network

hits_kind : (ss : List Seen) (k : ℕ) → k < 65 → hits k ss ≡ number ss k
unfolding hits number
hits_kind [] k h = refl
hits_kind (s ∷ ss) k h =
    rw (ne_eqb (network_at s.kind s.network) k (λ (e : network_at s.kind s.network ≡ k). omega arith), hits_kind ss k h, add-zero)

-- what is seen has a datatype of six bits or 64, and a network of eight
abbrev pub Ranged : Seen → Type 0
Ranged s = (s.kind ≤ 64) × (s.network < 256)

at-network : (s : Seen) (k n : ℕ) → Ranged s → n < 256 → eqb (network_at s.kind s.network) (network_at k n) ≡ both (eqb s.kind k) (eqb s.network n)
at-network s k n r h = go (eqb s.kind k) refl (eqb s.network n) refl
  where
    go :
        (a : Bool) → eqb s.kind k ≡ a → (b : Bool) → eqb s.network n ≡ b
        → eqb (network_at s.kind s.network) (network_at k n) ≡ both a b
    go true ea true eb = eq-eqb (network_at s.kind s.network) (network_at k n) (omega (arith, eqb-true s.kind k ea, eqb-true s.network n eb))
    go true ea false eb = ne_eqb _ _ (λ (e : network_at s.kind s.network ≡ network_at k n). eqb-false s.network n eb (omega (arith, eqb-true s.kind k ea)))
    go false ea b eb = ne_eqb _ _ (λ (e : network_at s.kind s.network ≡ network_at k n). eqb-false s.kind k ea (omega (arith, r.1, h)))

hits-network : {ss : List Seen} → Each Ranged ss → (k n : ℕ) → n < 256 → hits (network_at k n) ss ≡ number_of ss k n
unfolding hits number_of
hits-network nil k n h = refl
hits-network (and {a = s} {l = ss} r rs) k n h =
    rw (at-network s k n r h, hits-network rs k n h, ne_eqb s.kind (network_at k n) (λ (e : s.kind ≡ network_at k n). omega (arith, r.0)))
    (ap (λ (m : ℕ). m + number_of ss k n) (zero-add _))

pub seen-ranged : (application : ℕ) (r : List ℕ) → Ranged (seen application r)
unfolding seen
seen-ranged application r = go (both (has_kind application r) (is_read application (kind_of r) r)) refl
  where
    go :
        (t : Bool) → both (has_kind application r) (is_read application (kind_of r) r) ≡ t
        → Ranged (pick t (record { kind = kind_of r; network = network_of (kind_of r) r }) unseen)
    go true e =
        let same = network-read application (kind_of r) r (both-second (has_kind application r) _ e) in
        (omega (arith, field_lt 18 6 (compound (drop head_length r))), omega (arith, same, network_lt (kind_of r) (drop head_length r)))
    go false e = (omega arith, omega arith)

pub all-ranged : (application : ℕ) (bs : List Block) → Each Ranged (all_seen application bs)
unfolding all_seen
all-ranged application [] = nil
all-ranged application (b ∷ bs) = and (seen-ranged application (record_of b)) (all-ranged application bs)

-- ---- what the rules say of counts as they are kept

capped_leb : (n m : ℕ) → m < 256 → leb (capped n) m ≡ leb n m
capped_leb n m h = go (ltb n 256) refl
  where
    go : (t : Bool) → ltb n 256 ≡ t → leb (pick t n 256) m ≡ leb n m
    go true e = refl
    go false e = lt-leb 256 m h ∙ sym (lt-leb n m (omega (arith, ltb-false n 256 e)))

pub capped_eqb : (n m : ℕ) → m < 256 → eqb (capped n) m ≡ eqb n m
capped_eqb n m h = go (ltb n 256) refl
  where
    go : (t : Bool) → ltb n 256 ≡ t → eqb (pick t n 256) m ≡ eqb n m
    go true e = refl
    go false e = ne_eqb 256 m (λ (x : 256 ≡ m). omega arith) ∙ sym (ne_eqb n m (λ (x : n ≡ m). omega (arith, ltb-false n 256 e)))

all_same : (f g : ℕ → Bool) (n i : ℕ) → ((k : ℕ) → k < i + n → f k ≡ g k) → all f i n ≡ all g i n
all_same f g zero i h = refl
all_same f g (suc n) i h =
    ap₂ both (h i (omega arith)) (all_same f g n (suc i) (λ (k : ℕ) (l : k < suc i + n). h k (omega arith)))

limit-most : (channel network : ℕ) → limit 1 2 channel network < 256
limit-most channel network = go (eqb network channel)
  where
    go : (t : Bool) → pick t 2 1 < 256
    go true = omega arith
    go false = omega arith

-- a tally of the blocks that begins with zeros
module _ (t : List ℕ) (fresh : t ≡ replicate places 0) (application : ℕ) (bs : List Block) where
  abbrev ss : List Seen
  ss = all_seen application bs

  abbrev channel : ℕ
  channel = channel_from 0 ss

  start-at : (p : ℕ) → p < places → get_or (tallied t ss) p 0 ≡ capped (hits p ss)
  start-at p h =
      let l : p < length t = omega (arith, ap length fresh, length-replicate {A = ℕ} places 0) in
      let z : get_or t p 0 ≡ capped 0 = ap (λ (u : List ℕ). get_or u p 0) fresh ∙ get_or-replicate places p 0 0 h in
      tallied_at ss t p 0 l z ∙ (rw zero-add)

  pub kind_at : (k : ℕ) → k < 65 → get_or (tallied t ss) k 0 ≡ capped (number ss k)
  kind_at k h = start-at k (omega arith) ∙ ap capped (hits_kind ss k h)

  network-at : (k n : ℕ) → k < 9 → n < 256 → get_or (tallied t ss) (network_at k n) 0 ≡ capped (number_of ss k n)
  network-at k n h l = start-at (network_at k n) (omega arith) ∙ ap capped (hits-network (all-ranged application bs) k n l)

  each_network : (k : ℕ) → k < 9 → each_within (counts_by (tallied t ss) channel) k 1 2 ≡ each_within (counted ss) k 1 2
  unfolding each_within counts_by counted
  each-network k h =
      all_same
      (λ (n : ℕ). leb (get_or (tallied t ss) (network_at k n) 0) (limit 1 2 channel n))
      (λ (n : ℕ). leb (number_of ss k n) (limit 1 2 channel n))
      256
      0
      (λ (n : ℕ) (l : n < 256). ap (λ (m : ℕ). leb m (limit 1 2 channel n)) (network-at k n h l) ∙ capped_leb (number_of ss k n) (limit 1 2 channel n) (limit-most channel n))

  pub same-verdict : verdict (counts_by (tallied t ss) channel) minimum ≡ verdict (counted ss) minimum
  unfolding verdict counts_by counted
  same-verdict =
      rw (
        kind_at AI (omega arith),
        kind_at MI (omega arith),
        kind_at UI (omega arith),
        each-network LI (omega arith),
        each-network TI (omega arith),
        capped_eqb (number ss AI) 1 (omega arith),
        capped_leb (number ss MI) 255 (omega arith),
        capped_leb (number ss UI) 1 (omega arith),
      )
