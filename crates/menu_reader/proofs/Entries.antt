-- What one call of the walk puts: an entry, a string, an event, the opening. Assumes nothing.
use mathlib.Core.Path.{◌≡◌, ◌∙◌, refl, sym, ap, ap₂, subst}
use mathlib.Core.List.{List, [], ◌∷◌}
use Prim.Native.Nat.{ℕ, suc, ◌+◌, ◌*◌, ◌/◌, ◌%◌, ◌<◌}
use native.Mathlib.Nat.{add-zero, add_assoc, zero-add}
use native.Mathlib.Omega.{arith}
use lib.ListN.{length, drop}
use lib.Seq.{sets}
use Rattle.laws.proofs.Lists.{sets-append}
use Rattle.fields.specs.Fields.{parts}
use Rattle.menu_forms.specs.Menus.{NI, info_bytes}
use Rattle.menu_forms.specs.Form.{high_first, descriptor_form, escape_form, attribute_form, codes_in}
use Rattle.codecs.proofs.Codes.{codes-count}
use Rattle.menu_forms.proofs.Forms.{high_length}
use Rattle.menu_reader.specs.Internal.{bits_at, descriptor_at, escape_at, attribute_at, text_at, event_at}
use Rattle.menu_reader.specs.declared.Spot.{Spot}
use Rattle.menu_reader.specs.declared.Loop.TheVariants.{Descriptors, Escapes, Attributes}
use Rattle.menu_reader.specs.Internal.{entry_nibbles, entry_form, loop_nibbles, loop_form, Went, PutText, PutEvent, opening_bytes}
use Rattle.menu_reader.proofs.Going.{went_same, went_on}
use Rattle.menu_reader.proofs.Rows.{descriptor-long, escape_long, attribute_long, byte_more, byte_last, word_more, word-last}
use Rattle.menu_reader.proofs.Texts.{text_codes, text-form, text-nibbles, event-codes, event-form, event-nibbles}

-- bytes that are put at a place, with the places behind them
went_by :
    (s : Spot) (nibbles k at to : ℕ) (bytes old new : List ℕ) → at ≡ s.at + nibbles → to ≡ s.to + k → length bytes ≡ k
    → new ≡ sets old s.to bytes
    → Went s (record { at = at; from = s.from; to = to }) nibbles 0 bytes old new
went_by s nibbles k at to bytes old new ea et l w =
    record {
      passes = ea;
      takes = sym (add-zero s.from);
      fills = et ∙ ap (λ (x : ℕ). s.to + x) (sym l);
      writes = w;
    }

-- ---- entries

module _ (s : Spot) (l old new : List ℕ) where
  pub descriptor-put :
      (w i v : ℕ) → w ≡ bits_at 0 6 l → i ≡ bits_at 6 6 l → v ≡ bits_at 12 8 l → w < 64 → i < 64 → v < 256
      → new ≡ sets old s.to (parts 8 3 (w + 256 * (i + 256 * v)))
      → Went s (record { at = s.at + 5; from = s.from; to = s.to + 3 }) (entry_nibbles Descriptors l) 0 (entry_form Descriptors l) old new
  descriptor-put w i v ew ei ev lw li lv e =
      let bytes : parts 8 3 (w + 256 * (i + 256 * v)) ≡ w ∷ i ∷ v ∷ [] =
      byte_more 2 (i + 256 * v) w (omega arith)
      ∙ ap (λ (x : List ℕ). w ∷ x) (byte_more 1 v i (omega arith) ∙ ap (λ (x : List ℕ). i ∷ x) (byte_last v lv)) in
      let all : parts 8 3 (w + 256 * (i + 256 * v)) ≡ descriptor_form (descriptor_at l) = bytes ∙ (rw (ew, ei, ev)) in
      went_by s _ 3 _ _ _ old new (ap (λ (x : ℕ). s.at + x) (sym (descriptor-long (descriptor_at l)))) refl refl
      (e ∙ ap (λ (x : List ℕ). sets old s.to x) all)

  pub escape-put :
      (p m v : ℕ) → p ≡ bits_at 0 10 l → m ≡ bits_at 10 6 l → v ≡ bits_at 16 8 l → p < 1024 → m < 64 → v < 256
      → new ≡ sets old s.to (parts 8 4 (p + 65536 * (m + 256 * v)))
      → Went s (record { at = s.at + 6; from = s.from; to = s.to + 4 }) (entry_nibbles Escapes l) 0 (entry_form Escapes l) old new
  escape-put p m v ep em ev lp lm lv e =
      let bytes : parts 8 4 (p + 65536 * (m + 256 * v)) ≡ p % 256 ∷ p / 256 ∷ m ∷ v ∷ [] =
      word_more 2 (m + 256 * v) p (omega arith)
      ∙ ap (λ (x : List ℕ). p % 256 ∷ p / 256 ∷ x) (byte_more 1 v m (omega arith) ∙ ap (λ (x : List ℕ). m ∷ x) (byte_last v lv)) in
      let all : parts 8 4 (p + 65536 * (m + 256 * v)) ≡ escape_form (escape_at l) = bytes ∙ (rw (ep, em, ev)) in
      went_by s _ 4 _ _ _ old new (ap (λ (x : ℕ). s.at + x) (sym (escape_long (escape_at l)))) refl refl
      (e ∙ ap (λ (x : List ℕ). sets old s.to x) all)

  pub attribute-put :
      (kind k : ℕ) (mid : List ℕ) → kind ≡ bits_at 0 8 l → k ≡ info_bytes kind → kind < 256 → mid ≡ sets old s.to (parts 8 1 kind)
      → new ≡ sets mid (s.to + 1) (high_first k (bits_at 8 (8 * k) l))
      → Went s (record { at = s.at + 2 + 2 * k; from = s.from; to = s.to + 1 + k }) (entry_nibbles Attributes l) 0 (entry_form Attributes l) old new
  attribute-put kind k mid ek en lk e₁ e₂ =
      let info = high_first k (bits_at 8 (8 * k) l) in
      let same : k ≡ info_bytes (bits_at 0 8 l) = en ∙ ap info_bytes ek in
      let stored : new ≡ sets old s.to (kind ∷ info) =
      e₂ ∙ ap (λ (x : List ℕ). sets x (s.to + 1) info) (e₁ ∙ ap (λ (x : List ℕ). sets old s.to x) (byte_last kind lk))
      ∙ sym (sets-append old s.to (kind ∷ []) info) in
      let all : kind ∷ info ≡ attribute_form (attribute_at l) =
      ap₂ (λ (x y : ℕ). x ∷ high_first y (bits_at 8 (8 * y) l)) ek same in
      let long : length (attribute_form (attribute_at l)) ≡ 1 + k =
      ap length (sym all) ∙ ap suc (high_length k (bits_at 8 (8 * k) l)) ∙ (omega arith) in
      let far : s.at + 2 + 2 * k ≡ s.at + entry_nibbles Attributes l =
      add_assoc s.at 2 (2 * k) ∙ ap (λ (x : ℕ). s.at + (2 + 2 * x)) same ∙ ap (λ (x : ℕ). s.at + x) (sym (attribute_long (attribute_at l))) in
      went_by s _ (1 + k) _ _ _ old new far (add_assoc s.to 1 k) long (stored ∙ ap (λ (x : List ℕ). sets old s.to x) all)

-- ---- strings and events

module _ (ns cs : List ℕ) (s : Spot) where
  pub text-put :
      (escapes codes : ℕ) (e : Spot) (out₀ out₁ out₂ out₃ : List ℕ)
      → escapes ≡ bits_at 0 8 (drop s.at ns)
      → codes ≡ bits_at 0 8 (drop (s.at + 2 + 6 * escapes) ns)
      → escapes < 256
      → codes < 256
      → out₁ ≡ sets out₀ s.to (parts 8 2 (escapes + 256 * codes))
      → Went (record { at = s.at + 2; from = s.from; to = s.to + 2 }) e (loop_nibbles Escapes escapes (drop (s.at + 2) ns)) 0
      (loop_form Escapes escapes (drop (s.at + 2) ns)) out₁ out₂
      → out₃ ≡ sets out₂ e.to (codes_in codes (drop s.from cs))
      → PutText s (record { at = e.at + 2; from = s.from + codes; to = e.to + codes }) (text_at (drop s.at ns) (drop s.from cs)) out₀ out₃
  text-put escapes codes e out₀ out₁ out₂ out₃ ee ec le lc w₁ w₂ w₃ =
      let l = drop s.from cs in
      let first : Went s (record { at = s.at + 2; from = s.from; to = s.to + 2 }) 2 0 (escapes ∷ codes ∷ []) out₀ out₁ =
      went_by s 2 2 _ _ _ out₀ out₁ refl refl refl
      (w₁
      ∙ ap (λ (x : List ℕ). sets out₀ s.to x) (byte_more 1 codes escapes le ∙ ap (λ (x : List ℕ). escapes ∷ x) (byte_last codes lc))) in
      let last : Went e (record { at = e.at + 2; from = s.from + codes; to = e.to + codes }) 2 codes (codes_in codes l) out₂ out₃ =
      record {
        passes = refl;
        takes = ap (λ (x : ℕ). x + codes) (sym (w₂.takes ∙ add-zero s.from));
        fills = ap (λ (x : ℕ). e.to + x) (sym (codes-count codes l));
        writes = w₃;
      } in
      went_same (went_on first (went_on w₂ last)) (text-nibbles ns l s.at escapes ee codes ec)
      (zero-add (0 + codes) ∙ zero-add codes ∙ sym (text_codes ns l s.at escapes ee codes ec))
      (text-form ns l s.at escapes ee codes ec)

  pub event-put :
      (link kind count : ℕ) (a r : Spot) (out₀ out₁ out₂ out₃ : List ℕ)
      → link ≡ bits_at 0 16 (drop s.at ns)
      → kind ≡ bits_at 16 4 (drop s.at ns)
      → count ≡ bits_at 20 4 (drop s.at ns)
      → link < 65536
      → kind < 16
      → count < 16
      → out₁ ≡ sets out₀ s.to (parts 8 4 (link + 65536 * (kind + 256 * count)))
      → Went (record { at = s.at + 6; from = s.from; to = s.to + 4 }) a (loop_nibbles Attributes count (drop (s.at + 6) ns)) 0
      (loop_form Attributes count (drop (s.at + 6) ns)) out₁ out₂
      → PutText a r (text_at (drop a.at ns) (drop a.from cs)) out₂ out₃
      → PutEvent s r (event_at (drop s.at ns) (drop s.from cs)) out₀ out₃
  event-put link kind count a r out₀ out₁ out₂ out₃ el ek ec ll lk lc w₁ w₂ w₃ =
      let l = drop s.from cs in
      let bytes : parts 8 4 (link + 65536 * (kind + 256 * count)) ≡ link % 256 ∷ link / 256 ∷ kind ∷ count ∷ [] =
      word_more 2 (kind + 256 * count) link ll
      ∙ ap (λ (x : List ℕ). link % 256 ∷ link / 256 ∷ x)
      (byte_more 1 count kind (omega arith) ∙ ap (λ (x : List ℕ). kind ∷ x) (byte_last count (omega arith))) in
      let first : Went s (record { at = s.at + 6; from = s.from; to = s.to + 4 }) 6 0 (link % 256 ∷ link / 256 ∷ kind ∷ count ∷ []) out₀ out₁ =
      went_by s 6 4 _ _ _ out₀ out₁ refl refl refl (w₁ ∙ ap (λ (x : List ℕ). sets out₀ s.to x) bytes) in
      let text : PutText a r (text_at (drop a.at ns) l) out₂ out₃ =
      subst (λ (x : ℕ). PutText a r (text_at (drop a.at ns) (drop x cs)) out₂ out₃) (w₂.takes ∙ add-zero s.from) w₃ in
      went_same (went_on first (went_on w₂ text)) (event-nibbles ns l s.at link kind count a.at el ek ec w₂.passes)
      (zero-add (0 + _) ∙ zero-add _ ∙ event-codes ns l s.at link kind count a.at el ek ec w₂.passes)
      (event-form ns l s.at link kind count a.at el ek ec w₂.passes)

-- ---- the opening

pub opening-put :
    (ns : List ℕ) (copyright block header events size descriptors message : ℕ) (out₀ out₁ out₂ : List ℕ)
    → copyright ≡ bits_at 26 1 ns
    → block ≡ bits_at 28 16 ns
    → header ≡ bits_at 44 2 ns
    → events ≡ bits_at 46 4 ns
    → size ≡ bits_at 50 3 ns
    → descriptors ≡ bits_at 54 6 ns
    → copyright < 2
    → block < 65536
    → header < 4
    → events < 16
    → size < 8
    → descriptors < 64
    → message < 256
    → out₁ ≡ sets out₀ 0 (parts 8 4 (NI + 256 * (copyright + 256 * block)))
    → out₂ ≡ sets out₁ 4 (parts 8 5 (header + 256 * (size + 256 * (message + 256 * (descriptors + 256 * events)))))
    → out₂ ≡ sets out₀ 0 (opening_bytes ns message)
opening-put ns copyright block header events size descriptors message out₀ out₁ out₂ e₁ e₂ e₃ e₄ e₅ e₆ l₁ l₂ l₃ l₄ l₅ l₆ l₇ w₁ w₂ =
    let first : parts 8 4 (NI + 256 * (copyright + 256 * block)) ≡ NI ∷ copyright ∷ block % 256 ∷ block / 256 ∷ [] =
    byte_more 3 (copyright + 256 * block) NI (omega arith)
    ∙ ap (λ (x : List ℕ). NI ∷ x) (byte_more 2 block copyright (omega arith) ∙ ap (λ (x : List ℕ). copyright ∷ x) (word-last block l₂)) in
    let second : parts 8 5 (header + 256 * (size + 256 * (message + 256 * (descriptors + 256 * events)))) ≡ header ∷ size ∷ message ∷ descriptors ∷ events ∷ [] =
    byte_more 4 (size + 256 * (message + 256 * (descriptors + 256 * events))) header (omega arith)
    ∙ ap (λ (x : List ℕ). header ∷ x)
    (byte_more 3 (message + 256 * (descriptors + 256 * events)) size (omega arith)
    ∙ ap (λ (x : List ℕ). size ∷ x)
    (byte_more 2 (descriptors + 256 * events) message l₇
    ∙ ap (λ (x : List ℕ). message ∷ x)
    (byte_more 1 events descriptors (omega arith) ∙ ap (λ (x : List ℕ). descriptors ∷ x) (byte_last events (omega arith))))) in
    w₂ ∙ (rw (w₁, first, second, e₁, e₂, e₃, e₄, e₅, e₆))
