-- A form as the walk reads it: strings, events and heads by place, one step after the other. Assumes nothing.
use mathlib.Core.Path.{◌≡◌, ◌∙◌, sym, ap}
use mathlib.Core.List.{List, [], ◌∷◌, ◌++◌, map}
use Prim.Native.Nat.{ℕ, ◌+◌, ◌-◌, ◌*◌, ◌≤◌, ◌<◌}
use native.Mathlib.Nat.{add-zero, add_assoc}
use native.Mathlib.Omega.{arith}
use lib.ListN.{get_or, drop}
use lib.Seq.{drop-drop, get_or-drop}
use Rattle.fields.specs.Fields.{whole}
use Rattle.laws.proofs.Countdown.{at_none, at_more}
use Rattle.menu_forms.specs.Menus.{info_bytes}
use Rattle.menu_forms.specs.Form.{codes_in}
use Rattle.text_lines.specs.Lines.{number_line}
use Rattle.menu_listing.specs.Lines.{level_name, menu_name, header_name, event_name, shown, text_line, link_line}
use Rattle.menu_listing.specs.Internal.{attributes_length, string_length, codes_at, text_place, event_length, link_at, header_place, events_place}
use Rattle.menu_listing.specs.Internal.{own_lines_at, head_lines_at}

-- ---- strings

pub string_at : (at a b : ℕ) (f : List ℕ) → a ≡ get_or f at 0 → b ≡ get_or f (at + 1) 0 → 2 + 4 * a + b ≡ string_length (drop at f)
string_at at a b f ha hb = rw (get_or-drop at f 0 0, add-zero at, get_or-drop at f 1 0, ha, hb)

pub codes_at_lem :
    (at a b : ℕ) (f : List ℕ) → a ≡ get_or f at 0 → b ≡ get_or f (at + 1) 0 → codes_in b (drop (at + (2 + 4 * a)) f) ≡ codes_at (drop at f)
codes_at_lem at a b f ha hb = rw (get_or-drop at f 0 0, add-zero at, get_or-drop at f 1 0, drop-drop (2 + 4 * get_or f at 0) at f, ha, hb)

-- one code on
pub code-on :
    (left i x : ℕ) (f : List ℕ) → 0 < left → x ≡ shown (get_or f i 0)
    → map shown (codes_in left (drop i f)) ≡ (x ∷ []) ++ map shown (codes_in (left - 1) (drop (i + 1) f))
unfolding codes_in
code-on left i x f some e =
    at_more (λ (k : ℕ). map shown (codes_in k (drop i f))) left some ∙ (rw (drop-drop 1 i f, get_or-drop i f 0 0, add-zero i, e))

pub code-end : (left i : ℕ) (f : List ℕ) → left ≤ 0 → map shown (codes_in left (drop i f)) ≡ []
unfolding codes_in
code-end left i f none = at_none (λ (k : ℕ). map shown (codes_in k (drop i f))) left none

-- ---- events

pub text-start :
    (i k : ℕ) (f : List ℕ) → k ≡ get_or f (i + 3) 0 → i + 4 + attributes_length k (drop (i + 4) f) ≡ i + text_place (drop i f)
text-start i k f e = rw (get_or-drop i f 3 0, drop-drop 4 i f, ← e) (add_assoc i 4 _)

pub text-on :
    (left at n : ℕ) (f : List ℕ) → 0 < left → n ≡ info_bytes (get_or f at 0)
    → at + (1 + n) + attributes_length (left - 1) (drop (at + (1 + n)) f) ≡ at + attributes_length left (drop at f)
unfolding attributes_length
text-on left at n f some e =
    sym
    (ap (λ (x : ℕ). at + x) (at_more (λ (k : ℕ). attributes_length k (drop at f)) left some)
    ∙ (rw (get_or-drop at f 0 0, add-zero at, ← e, drop-drop (1 + n) at f) (sym (add_assoc at (1 + n) _))))

pub text-end : (left at : ℕ) (f : List ℕ) → left ≤ 0 → at + attributes_length left (drop at f) ≡ at
unfolding attributes_length
text-end left at f none = ap (λ (x : ℕ). at + x) (at_none (λ (k : ℕ). attributes_length k (drop at f)) left none) ∙ add-zero at

pub event_next :
    (i t s : ℕ) (f : List ℕ) → t ≡ i + text_place (drop i f) → s ≡ string_length (drop t f) → t + s ≡ i + event_length (drop i f)
event_next i t s f ht hs = rw (hs, ht, drop-drop (text_place (drop i f)) i f) (add_assoc i _ _)

pub link_at_lem :
    (i a b : ℕ) (f : List ℕ) → a ≡ get_or f i 0 → b ≡ get_or f (i + 1) 0 → a < 256 → b < 256 → a + 256 * b ≡ link_at (drop i f)
unfolding whole
link_at_lem i a b f ha hb la lb = rw (get_or-drop i f 0 0, add-zero i, get_or-drop i f 1 0, ← ha, ← hb) (omega arith)

pub events_at_lem : (h s : ℕ) (f : List ℕ) → h ≡ header_place f → s ≡ string_length (drop h f) → h + s ≡ events_place f
events_at_lem h s f hh hs = rw (hs, hh)

-- ---- lines

-- an event's own lines, from what is read at its places
pub own_lines :
    (level i t kind link : ℕ) (f : List ℕ) → t ≡ i + text_place (drop i f) → kind ≡ get_or f (i + 2) 0 → link ≡ link_at (drop i f)
    → number_line level_name level ++ text_line event_name (codes_at (drop t f)) ++ link_line kind link ≡ own_lines_at level (drop i f)
unfolding own_lines_at
own_lines level i t kind link f ht hk hl =
    rw (hl, drop-drop (text_place (drop i f)) i f, ← ht, get_or-drop i f 2 0, ← hk)

pub head_lines_lem :
    (level number h : ℕ) (f : List ℕ) → h ≡ header_place f
    → number_line level_name level ++ number_line menu_name number ++ text_line header_name (codes_at (drop h f)) ≡ head_lines_at level number f
unfolding head_lines_at
head_lines_lem level number h f e = rw e
