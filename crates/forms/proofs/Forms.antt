-- A table and its form in lent bytes are each other's inverse. Assumes nothing.
use mathlib.Core.Path.{◌≡◌, ◌∙◌, refl, sym, ap, ap₂}
use mathlib.Core.Bool.{Bool, true, false}
use Rattle.std.proofs.Common.{◌⊎◌, inl, inr}
use mathlib.Core.List.{List, [], ◌∷◌, ◌++◌}
use Prim.Native.Nat.{ℕ, zero, suc, ◌+◌, ◌-◌, ◌*◌, ◌/◌, ◌%◌, ◌^◌, ◌≤◌, ◌<◌}
use native.Mathlib.Nat.{add-zero, mod-eq_of_lt, mul-div_cancel_left}
use native.Mathlib.Omega.{arith}
use borrow.Author.Tests.{ltb-true, lt-ltb, le-ltb, eqb-true, eq-eqb}
use lib.Dec.{ltb, eqb}
use lib.ListN.{length, get_or, take, drop, length-drop, take-append-drop}
use lib.Seq.{drop-drop, drop_at, drop-cons, get_or-drop}
use Rattle.laws.specs.Pick.{both, either}
use Rattle.laws.specs.Bytes.{Bytes}
use Rattle.laws.proofs.Byted.{bytes_drop}
use Rattle.laws.proofs.Tests.{both_true}
use Rattle.fields.specs.Fields.{alike, fitting, parts, whole}
use Rattle.fields.proofs.Laid.{fitting-append, whole_parts, whole-first, whole-next, whole_lt}
use Rattle.forms.specs.Writing.{form_numbered}
use Rattle.forms.specs.Tables.{Descriptor, Table, TI, LI, known, numbered, per, entries, loops, bits, entire, fits}
use Rattle.forms.specs.Form.{spelled, listed, opening_of, form, words_in, descriptors_in, table_in}
use Rattle.forms.proofs.Sendable.{Sendable, Sound, sendable, sends, parted}
use Rattle.forms.proofs.Measures.{per_pos, length-spelled, length-listed, length-form, bits_of, eights}

-- ---- the table out of its form

words_back : (ws rest : List ℕ) → fitting (alike 24 ws) ≡ true → words_in (length ws) (spelled ws ++ rest) ≡ ws
unfolding words_in spelled fitting alike parts
words_back [] rest h = refl
words_back (w ∷ ws) rest h =
    let p = both_true (ltb w (2 ^ 24)) (fitting (alike 24 ws)) h in
    let small : w < 2 ^ 24 = ltb-true w (2 ^ 24) p.0 in
    ap₂ (λ (x : ℕ) (xs : List ℕ). x ∷ xs) (whole_parts 8 3 w ∙ mod-eq_of_lt small) (words_back ws rest p.1)

descriptor-back :
    (kind : ℕ) (d : Descriptor) (ds : List Descriptor) → Sound kind d
    → descriptors_in (per kind) (suc (length ds)) (listed kind (d ∷ ds)) ≡ d ∷ descriptors_in (per kind) (length ds) (listed kind ds)
unfolding descriptors_in listed
descriptor-back kind d ds s =
    let count = s.whole_entries in
    let n = per kind * entries kind d.words in
    let words : words_in n (spelled d.words ++ listed kind ds) ≡ d.words =
    ap (λ (x : ℕ). words_in x (spelled d.words ++ listed kind ds)) count ∙ words_back d.words (listed kind ds) s.words_fit in
    let rest : drop (2 + 3 * n) (listed kind (d ∷ ds)) ≡ listed kind ds =
    sym (drop-drop (3 * n) 2 (listed kind (d ∷ ds)))
    ∙ drop_at (spelled d.words) (listed kind ds) (3 * n) (length-spelled d.words ∙ ap (λ (x : ℕ). 3 * x) (sym count)) in
    let one : ◌≡◌ {A = Descriptor} (record { id = d.id; words = words_in n (spelled d.words ++ listed kind ds) }) d =
    ap (λ (ws : List ℕ). record { id = d.id; words = ws }) words in
    ap₂ (λ (x : Descriptor) (xs : List Descriptor). x ∷ xs) one (ap (descriptors_in (per kind) (length ds)) rest)

descriptors_back :
    (kind : ℕ) (ds : List Descriptor) → entire kind ds ≡ true → fitting (loops kind ds) ≡ true
    → descriptors_in (per kind) (length ds) (listed kind ds) ≡ ds
unfolding descriptors_in
descriptors_back kind [] h k = refl
descriptors_back kind (d ∷ ds) h k =
    let p = parted kind d ds h k in
    descriptor-back kind d ds p.0 ∙ ap (λ (xs : List Descriptor). d ∷ xs) (descriptors_back kind ds p.1 p.2)

pub form_in : (t : Table) → Sendable t → table_in (form t) ≡ t
unfolding table_in form opening_of whole
form_in t s =
    let b : (0 * 2 ^ 8 + t.block / 256 % 2 ^ 8) * 2 ^ 8 + t.block % 256 % 2 ^ 8 ≡ t.block = omega (arith, s.block_fits) in
    λ i.
    record {
      kind = t.kind;
      copyright = t.copyright;
      block = b i;
      network = t.network;
      descriptors = descriptors_back t.kind t.descriptors s.entire_all s.loops_fit i;
    }

-- ---- the form out of its table

pub length_in : (each k : ℕ) (f : List ℕ) → length (descriptors_in each k f) ≡ k
unfolding descriptors_in
length_in each zero f = refl
length_in each (suc k) f = ap suc (length_in each k _)

pub length_words : (k : ℕ) (f : List ℕ) → length (words_in k f) ≡ k
unfolding words_in
length_words zero f = refl
length_words (suc k) f = ap suc (length_words k (drop 3 f))

-- as many entries as counted
pub entries_in_lem : (kind c words : ℕ) (f : List ℕ) → words ≡ per kind * c → entries kind (words_in words f) ≡ c
entries_in_lem kind c words f e = ap (λ (n : ℕ). n / per kind) (length_words words f ∙ e) ∙ mul-div_cancel_left c (per_pos kind)

spelled_back : (k : ℕ) (f : List ℕ) → Bytes f → 3 * k ≤ length f → spelled (words_in k f) ≡ take (3 * k) f
unfolding spelled words_in
spelled_back zero f b h = refl
spelled_back (suc k) [] b h = absurd (omega arith)
spelled_back (suc k) (x ∷ []) b h = absurd (omega arith)
spelled_back (suc k) (x ∷ y ∷ []) b h = absurd (omega arith)
spelled_back (suc k) (x ∷ y ∷ z ∷ f) b h =
    let e : 3 * suc k ≡ suc (suc (suc (3 * k))) = omega arith in
    rw (
      e,
      whole-next 8 z (y ∷ x ∷ []),
      whole-next 8 y (x ∷ []),
      whole-first 8 x [],
      whole-first 8 y (x ∷ []),
      whole-first 8 z (y ∷ x ∷ []),
      mod-eq_of_lt (b 0),
      mod-eq_of_lt (b 1),
      mod-eq_of_lt (b 2),
      spelled_back k f (λ i. b (suc (suc (suc i)))) (omega arith),
    )

-- one descriptor on, as the form's length goes
pub listed-step :
    (kind each k : ℕ) (f : List ℕ)
    → let words = each * get_or f 1 0 in
    length (listed kind (descriptors_in each (suc k) f))
    ≡ 2 + 3 * words + length (listed kind (descriptors_in each k (drop (2 + 3 * words) f)))
unfolding descriptors_in
listed-step kind each k f = rw (length-listed, length_words)

listed_back :
    (kind k : ℕ) (f : List ℕ) → Bytes f → length f ≡ length (listed kind (descriptors_in (per kind) k f))
    → listed kind (descriptors_in (per kind) k f) ≡ f
unfolding descriptors_in listed
listed_back kind zero [] b h = refl
listed_back kind zero (x ∷ f) b h = absurd (omega arith)
listed_back kind (suc k) [] b h = absurd (omega (arith, listed-step kind (per kind) k []))
listed_back kind (suc k) (x ∷ []) b h = absurd (omega (arith, listed-step kind (per kind) k (x ∷ [])))
listed_back kind (suc k) (x ∷ c ∷ f) b h =
    let words = per kind * c in
    let rest = drop (3 * words) f in
    let same : drop (2 + 3 * words) (x ∷ c ∷ f) ≡ rest = sym (drop-drop (3 * words) 2 (x ∷ c ∷ f)) in
    let step =
    listed-step kind (per kind) k (x ∷ c ∷ f)
    ∙ ap (λ (l : List ℕ). 2 + 3 * words + length (listed kind (descriptors_in (per kind) k l))) same in
    let long : length f ≡ 3 * words + length (listed kind (descriptors_in (per kind) k rest)) = omega (arith, h, step) in
    let count : entries kind (words_in words f) ≡ c = entries_in_lem kind c words f refl in
    let spelt = spelled_back words f (bytes_drop 2 (x ∷ c ∷ f) b) (omega arith) in
    let more =
    ap (λ (l : List ℕ). listed kind (descriptors_in (per kind) k l)) same
    ∙ listed_back kind k rest (bytes_drop (3 * words) f (bytes_drop 2 (x ∷ c ∷ f) b)) (length-drop (3 * words) f ∙ omega arith) in
    ap₂ (λ (n : ℕ) (l : List ℕ). x ∷ n ∷ l) count
    (ap₂ (λ (l m : List ℕ). l ++ m) spelt more ∙ take-append-drop (3 * words) f)

-- ---- bytes as a number

one_byte : (x : ℕ) → x < 256 → whole 8 (x ∷ []) ≡ x
unfolding whole
one_byte x h = omega arith

-- a block number, low byte first
pub two_bytes : (a b : ℕ) → a < 256 → b < 256 → a + 256 * b ≡ whole 8 (a ∷ b ∷ [])
unfolding whole
two_bytes a b ha hb = omega arith

six :
    (f : List ℕ) → 6 ≤ length f
    → get_or f 0 0 ∷ get_or f 1 0 ∷ get_or f 2 0 ∷ get_or f 3 0 ∷ get_or f 4 0 ∷ get_or f 5 0 ∷ drop 6 f ≡ f
six f h =
    sym
    (drop-cons f 0 0 (omega arith)
    ∙ (rw (drop-cons f 1 0 (omega arith), drop-cons f 2 0 (omega arith), drop-cons f 3 0 (omega arith), drop-cons f 4 0 (omega arith), drop-cons f 5 0 (omega arith))))

-- a form of the length of its counts is that of its table
pub in_form_lem : (f : List ℕ) → Bytes f → length f ≡ length (form (table_in f)) → form (table_in f) ≡ f
unfolding table_in form opening_of
in_form_lem f b h =
    let kind = get_or f 0 0 in
    let k = get_or f 5 0 in
    let more = drop 6 f in
    let ds = descriptors_in (per kind) k more in
    let long : length f ≡ 6 + length (listed kind ds) = h ∙ length-form (table_in f) in
    let count : length ds ≡ k = length_in (per kind) k more in
    let low : whole 8 (get_or f 2 0 ∷ get_or f 3 0 ∷ []) % 256 ≡ get_or f 2 0 =
    whole-first 8 (get_or f 2 0) (get_or f 3 0 ∷ []) ∙ mod-eq_of_lt (b 2) in
    let high : whole 8 (get_or f 2 0 ∷ get_or f 3 0 ∷ []) / 256 ≡ get_or f 3 0 =
    whole-next 8 (get_or f 2 0) (get_or f 3 0 ∷ []) ∙ one_byte (get_or f 3 0) (b 3) in
    let rest : listed kind ds ≡ more = listed_back kind k more (bytes_drop 6 f b) (length-drop 6 f ∙ omega arith) in
    rw (low, high, count, rest) (six f (omega arith))

-- ---- a walk along a form

-- one descriptor on: the one at the place `at`, then the others
pub in_on :
    (each left others at id c words : ℕ) (f : List ℕ) → left ≡ suc others → id ≡ get_or f at 0 → c ≡ get_or f (at + 1) 0 → words ≡ each * c
    → descriptors_in each left (drop at f)
    ≡ record { id = id; words = words_in words (drop (at + 2) f) } ∷ descriptors_in each others (drop (at + (2 + 3 * words)) f)
unfolding descriptors_in
in_on each left others at id c words f h e₀ e₁ e₂ =
    let i : get_or (drop at f) 0 0 ≡ id = get_or-drop at f 0 0 ∙ ap (λ (x : ℕ). get_or f x 0) (add-zero at) ∙ sym e₀ in
    let w : each * get_or (drop at f) 1 0 ≡ words = ap (λ (x : ℕ). each * x) (get_or-drop at f 1 0 ∙ sym e₁) ∙ sym e₂ in
    ap (λ (n : ℕ). descriptors_in each n (drop at f)) h ∙ (rw (w, i, drop-drop 2 at f, drop-drop (2 + 3 * words) at f))

-- as the form's length goes
pub form-on :
    (kind left others at c words whole : ℕ) (f : List ℕ) → left ≡ suc others → c ≡ get_or f (at + 1) 0 → words ≡ per kind * c
    → at + length (listed kind (descriptors_in (per kind) left (drop at f))) ≡ whole
    → at + (2 + 3 * words) + length (listed kind (descriptors_in (per kind) others (drop (at + (2 + 3 * words)) f))) ≡ whole
form-on kind left others at c words whole f h e₁ e₂ inv =
    let step :
    length (listed kind (descriptors_in (per kind) left (drop at f)))
    ≡ 2 + 3 * words + length (listed kind (descriptors_in (per kind) others (drop (at + (2 + 3 * words)) f))) =
    rw (in_on (per kind) left others at (get_or f at 0) c words f h refl e₁ e₂, length-listed, length_words) in
    omega (arith, step)

-- words of three bytes always fit
words_fit : (k : ℕ) (f : List ℕ) → fitting (alike 24 (words_in k f)) ≡ true
unfolding fitting alike words_in
words_fit zero f = refl
words_fit (suc k) f =
    rw (lt-ltb (whole 8 (get_or f 2 0 ∷ get_or f 1 0 ∷ get_or f 0 0 ∷ [])) (2 ^ 24) (whole_lt 8 (get_or f 2 0 ∷ get_or f 1 0 ∷ get_or f 0 0 ∷ [])))
    (words_fit k (drop 3 f))

-- what of a descriptor can be out of its field: its id and its number of entries
pub fits_on :
    (kind left others at id c words : ℕ) (f : List ℕ) → left ≡ suc others → id ≡ get_or f at 0 → c ≡ get_or f (at + 1) 0 → words ≡ per kind * c
    → fitting (loops kind (descriptors_in (per kind) left (drop at f)))
    ≡ both (ltb id 64)
    (both (ltb c 16) (fitting (loops kind (descriptors_in (per kind) others (drop (at + (2 + 3 * words)) f)))))
unfolding fitting loops
fits_on kind left others at id c words f h e₀ e₁ e₂ =
    let ws = words_in words (drop (at + 2) f) in
    let rest = loops kind (descriptors_in (per kind) others (drop (at + (2 + 3 * words)) f)) in
    rw (in_on (per kind) left others at id c words f h e₀ e₁ e₂, entries_in_lem kind c words (drop (at + 2) f) e₂)
    (ap (λ (b : Bool). both (ltb id 64) (both (ltb c 16) b))
    (fitting-append (alike 24 ws) rest ∙ ap (λ (b : Bool). both b (fitting rest)) (words_fit words (drop (at + 2) f))))

-- one whose id or number of entries is out of its field
pub fits_out :
    (kind left others at id c : ℕ) (f : List ℕ) → left ≡ suc others → id ≡ get_or f at 0 → c ≡ get_or f (at + 1) 0
    → (63 < id) ⊎ ((id ≤ 63) × (15 < c))
    → fitting (loops kind (descriptors_in (per kind) left (drop at f))) ≡ false
fits_out kind left others at id c f h e₀ e₁ (inl big) =
    let b : 64 ≤ id = omega arith in
    fits_on kind left others at id c (per kind * c) f h e₀ e₁ refl ∙ rw (le-ltb id 64 b)
fits_out kind left others at id c f h e₀ e₁ (inr (low, many)) =
    let l : id < 64 = omega arith in
    let b : 16 ≤ c = omega arith in
    fits_on kind left others at id c (per kind * c) f h e₀ e₁ refl ∙ rw (lt-ltb id 64 l, le-ltb c 16 b)

-- one whose id and number of entries fit
pub fits_in :
    (kind left others at id c words : ℕ) (f : List ℕ) → left ≡ suc others → id ≡ get_or f at 0 → c ≡ get_or f (at + 1) 0 → words ≡ per kind * c
    → id ≤ 63 → c ≤ 15
    → fitting (loops kind (descriptors_in (per kind) left (drop at f)))
    ≡ fitting (loops kind (descriptors_in (per kind) others (drop (at + (2 + 3 * words)) f)))
fits_in kind left others at id c words f h e₀ e₁ e₂ low few =
    let l : id < 64 = omega arith in
    let m : c < 16 = omega arith in
    fits_on kind left others at id c words f h e₀ e₁ e₂ ∙ rw (lt-ltb id 64 l, lt-ltb c 16 m)

-- ---- what of a form can be out of its field

entire_in : (kind k : ℕ) (f : List ℕ) → entire kind (descriptors_in (per kind) k f) ≡ true
unfolding entire descriptors_in
entire_in kind zero f = refl
entire_in kind (suc k) f =
    let c = get_or f 1 0 in
    let ws = words_in (per kind * c) (drop 2 f) in
    let e : length ws ≡ per kind * entries kind ws =
    length_words (per kind * c) (drop 2 f) ∙ ap (λ (n : ℕ). per kind * n) (sym (entries_in_lem kind c (per kind * c) (drop 2 f) refl)) in
    rw (eq-eqb (length ws) (per kind * entries kind ws) e) (entire_in kind k _)

known_small : (kind : ℕ) → known kind ≡ true → kind < 64
known_small kind e = go (eqb kind TI) refl (eqb kind LI) refl e
  where
    go : (a : Bool) → eqb kind TI ≡ a → (b : Bool) → eqb kind LI ≡ b → either a b ≡ true → kind < 64
    go true p b q h = let k = eqb-true kind TI p in omega arith
    go false p true q h = let k = eqb-true kind LI q in omega arith
    go false p false q h = absurd (let z : ◌≡◌ {A = ℕ} 0 1 = cc in omega arith)

-- a form's block number by its two bytes
pub numbered_in :
    (f : List ℕ) (a b : ℕ) → 4 ≤ length f → a ≡ get_or f 2 0 → b ≡ get_or f 3 0 → a < 256 → b < 256
    → numbered (a + 256 * b) ≡ form_numbered f
unfolding table_in
numbered_in f a b h ea eb ha hb = rw (le-ltb (length f) 4 h, two_bytes a b ha hb, ea, eb)

-- of a form of bytes, whose kind is known and whose block number is one of this edition
module _ (f : List ℕ) (b : Bytes f) (k : known (get_or f 0 0) ≡ true) (m : numbered (table_in f).block ≡ true) where
  pub in-sendable :
      get_or f 1 0 < 2 → get_or f 5 0 < 64 → fitting (loops (table_in f).kind (table_in f).descriptors) ≡ true → bits (table_in f) ≤ 8184
      → fits (table_in f) ≡ true
  unfolding table_in
  in-sendable one few small short =
      sends (table_in f)
      (record {
        kind_known = k;
        edition = m;
        entire_all = entire_in (get_or f 0 0) (get_or f 5 0) (drop 6 f);
        control_fits = omega (arith, short);
        kind_fits = known_small (get_or f 0 0) k;
        copyright_fits = one;
        block_fits = whole_lt 8 (get_or f 2 0 ∷ get_or f 3 0 ∷ []);
        network_fits = b 4;
        count_fits = rw (length_in (per (get_or f 0 0)) (get_or f 5 0) (drop 6 f)) few;
        loops_fit = small;
      })

unfit : (t : Table) → (Sendable t → ⊥) → fits t ≡ false
unfit t h = go (fits t) refl
  where
    go : (b : Bool) → fits t ≡ b → b ≡ false
    go true e = absurd (h (sendable t e))
    go false e = refl

pub out_copyright : (f : List ℕ) → 1 < get_or f 1 0 → fits (table_in f) ≡ false
unfolding table_in
out_copyright f h = unfit (table_in f) (λ s. let k = s.copyright_fits in omega arith)

pub out_count : (f : List ℕ) → 63 < get_or f 5 0 → fits (table_in f) ≡ false
unfolding table_in
out_count f h =
    unfit (table_in f) (λ s. omega (arith, s.count_fits, length_in (per (get_or f 0 0)) (get_or f 5 0) (drop 6 f)))

pub out_loops : (f : List ℕ) → fitting (loops (table_in f).kind (table_in f).descriptors) ≡ false → fits (table_in f) ≡ false
out_loops f h =
    unfit (table_in f) (λ s. let k = s.loops_fit in let z : ◌≡◌ {A = ℕ} 0 1 = cc in omega arith)

pub out_bits : (f : List ℕ) → 8184 < bits (table_in f) → fits (table_in f) ≡ false
out_bits f h = unfit (table_in f) (λ s. let k = s.control_fits in omega arith)

-- the bits of a form's table by the form's length
pub bits_in :
    (f : List ℕ) → length f ≡ length (form (table_in f)) → 58 + 8 * (length f - 6) - 6 * get_or f 5 0 ≡ bits (table_in f)
unfolding table_in
bits_in f h =
    let kind = get_or f 0 0 in
    let ds = descriptors_in (per kind) (get_or f 5 0) (drop 6 f) in
    omega (arith, h, length-form (table_in f), bits_of (table_in f), eights kind ds, length_in (per kind) (get_or f 5 0) (drop 6 f))

pub count_room : (f : List ℕ) → length f ≡ length (form (table_in f)) → 6 * get_or f 5 0 ≤ 8 * (length f - 6)
unfolding table_in
count_room f h =
    let kind = get_or f 0 0 in
    let ds = descriptors_in (per kind) (get_or f 5 0) (drop 6 f) in
    omega (arith, h, length-form (table_in f), eights kind ds, length_in (per kind) (get_or f 5 0) (drop 6 f))
