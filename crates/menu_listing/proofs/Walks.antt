-- The two walks, step by step. Assumes nothing.
use mathlib.Core.Path.{◌≡◌, ◌∙◌, refl, sym, ap}
use mathlib.Core.Bool.{Bool, true, false}
use mathlib.Core.List.{List, [], ◌∷◌, ◌++◌, append-nil}
use Prim.Native.Nat.{ℕ, suc, ◌+◌, ◌-◌, ◌≤◌, ◌<◌}
use native.Mathlib.Omega.{arith}
use borrow.Author.Tests.{eq-eqb, ne_eqb}
use lib.ListN.{get_or, drop}
use lib.Seq.{drop-drop, get_or-drop}
use Rattle.laws.proofs.Countdown.{at_none, at_more}
use Rattle.menu_forms.specs.Menus.{Menu}
use Rattle.text_lines.specs.Lines.{number_line}
use Rattle.menu_listing.specs.Lines.{missing_name, deeper_name, to_menu, menu_lines}
use Rattle.menu_listing.specs.Listing.{lines_of}
use Rattle.menu_listing.specs.Internal.{event_length, link_at, own_lines_at, event_lines_at, events_lines_at, events_place, head_lines_at, Held, none, first}
use Rattle.menu_listing.proofs.Formed.{menu-lines}

-- ---- the event walk

module _ (follow : ℕ → List ℕ) (level i kind : ℕ) (f : List ℕ) (h : kind ≡ get_or f (i + 2) 0) where
  -- any other link isn't followed
  pub not-followed : (kind ≡ to_menu → ⊥) → own_lines_at level (drop i f) ≡ event_lines_at follow level (drop i f)
  unfolding event_lines_at
  not-followed n = rw (get_or-drop i f 2 0, ← h, ne_eqb kind to_menu n) (sym (append-nil (own_lines_at level (drop i f))))

  pub followed :
      (link : ℕ) → kind ≡ to_menu → link ≡ link_at (drop i f)
      → own_lines_at level (drop i f) ++ follow link ≡ event_lines_at follow level (drop i f)
  unfolding event_lines_at
  followed link e l = rw (get_or-drop i f 2 0, ← h, eq-eqb kind to_menu e, l)

-- with no level left the menu lies deeper
pub at-bottom : (menus : ℕ → List Menu) (levels below number : ℕ) → below ≡ 0 → number_line deeper_name number ≡ lines_of menus levels below number
unfolding lines_of
at-bottom menus levels below number e = ap (λ (n : ℕ). lines_of menus levels n number) (sym e)

pub level_down :
    (menus : ℕ → List Menu) (levels below number : ℕ) → (below ≡ 0 → ⊥) → lines_of menus levels (suc (below - 1)) number ≡ lines_of menus levels below number
level_down menus levels below number n = let e : suc (below - 1) ≡ below = omega arith in ap (λ (k : ℕ). lines_of menus levels k number) e

-- ---- the menu walk

module _ (menus : ℕ → List Menu) (levels below number : ℕ) (f : List ℕ) {r : Bool} (held : Held (menus number) f r) where
  by-held :
      {ms : List Menu} {b : Bool} → Held ms f b → b ≡ false
      → number_line missing_name number ≡ menu_lines (lines_of menus levels below) (levels - below) number ms
  unfolding menu_lines
  by-held none e = refl
  by-held (first h) e = let z : ◌≡◌ {A = ℕ} 0 1 = cc in absurd (omega arith)

  pub not-held : r ≡ false → number_line missing_name number ≡ lines_of menus levels (suc below) number
  unfolding lines_of
  not-held e = by-held held e

  found-by :
      {ms : List Menu} {b : Bool} → Held ms f b → b ≡ true
      → head_lines_at (levels - below) number f
      ++ events_lines_at (lines_of menus levels below) (levels - below) (get_or f 8 0) (drop (events_place f) f)
      ≡ menu_lines (lines_of menus levels below) (levels - below) number ms
  found-by none e = let z : ◌≡◌ {A = ℕ} 0 1 = cc in absurd (omega arith)
  found-by (first {m} {ms} h) e =
      menu-lines f (lines_of menus levels below) (levels - below) number ms
      ∙ ap (λ (x : Menu). menu_lines (lines_of menus levels below) (levels - below) number (x ∷ ms)) h

  pub held-lines :
      (n i : ℕ) → n ≡ get_or f 8 0 → i ≡ events_place f → r ≡ true
      → head_lines_at (levels - below) number f ++ events_lines_at (lines_of menus levels below) (levels - below) n (drop i f)
      ≡ lines_of menus levels (suc below) number
  unfolding lines_of
  held-lines n i hn hi e = rw (hn, hi) (found-by held e)

module _ (follow : ℕ → List ℕ) (level left i : ℕ) (f : List ℕ) where
  -- one event on
  pub events-on :
      (next : ℕ) → 0 < left → next ≡ i + event_length (drop i f)
      → event_lines_at follow level (drop i f) ++ events_lines_at follow level (left - 1) (drop next f) ≡ events_lines_at follow level left (drop i f)
  unfolding events_lines_at
  events-on next some e =
      sym (at_more (λ (k : ℕ). events_lines_at follow level k (drop i f)) left some ∙ (rw (drop-drop (event_length (drop i f)) i f, ← e)))

  pub events-end : left ≤ 0 → [] ≡ events_lines_at follow level left (drop i f)
  unfolding events_lines_at
  events-end over = sym (at_none (λ (k : ℕ). events_lines_at follow level k (drop i f)) left over)
