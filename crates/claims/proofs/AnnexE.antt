-- Annex E (SCOPE 31.12): a menu that reading accepts has strings of at most 255 codes, the header's and each event's, since so wide are their
-- lengths. Of Application Information `accepted-short` (information/proofs/Exact) says it of names and 31, and tables have no strings
-- (`no_strings`, forms/proofs/Formats). Assumes nothing.
use mathlib.Core.Path.{◌≡◌, ◌∙◌, sym, subst}
use mathlib.Core.Bool.{true}
use mathlib.Core.List.{List, [], ◌∷◌}
use Prim.Native.Nat.{ℕ, ◌≤◌}
use native.Mathlib.Omega.{arith}
use borrow.Author.Tests.{ltb-true}
use lib.Dec.{ltb}
use lib.ListN.{length}
use Rattle.laws.specs.Bytes.{Bytes}
use Rattle.laws.specs.Each.{Each, nil, and}
use Rattle.laws.proofs.Tests.{both_true, both_first, both-second}
use Rattle.fields.specs.Fields.{fitting}
use Rattle.fields.proofs.Laid.{fitting-append}
use Rattle.codecs.specs.Rows.{each}
use Rattle.blocks.specs.Outcome.{accepted}
use Rattle.menu_forms.specs.Menus.{Text, Event, Menu, text_format, event_format, escape_fields, attribute_fields, text_fields, event_fields, fits}
use Rattle.menu_forms.proofs.Formats.{plain_fits}
use Rattle.menu_forms.proofs.Forms.{fits-parts}
use Rattle.menu_reader.specs.Reading.{read_menu}
use Rattle.menu_reader.proofs.Exact.{accepted-says}

text-short : (t : Text) → fitting (text_fields t) ≡ true → length t.codes ≤ 255
unfolding text_format fitting
text-short t h =
    let p = both-second (ltb (length t.escapes) 256) _ h in
    let q = both-second (fitting (each escape_fields t.escapes)) _ (sym (fitting-append (each escape_fields t.escapes) ((8, length t.codes) ∷ [])) ∙ p) in
    let l = ltb-true (length t.codes) 256 (both_first (ltb (length t.codes) 256) true q) in
    omega (arith, l)

event_short : (e : Event) → fitting (event_fields e) ≡ true → length e.text.codes ≤ 255
unfolding event_format fitting
event_short e h =
    let p₁ = both-second (ltb e.link 65536) _ h in
    let p₂ = both-second (ltb e.link_type 16) _ p₁ in
    let p₃ = both-second (ltb (length e.attributes) 16) _ p₂ in
    text-short e.text
    (both-second (fitting (each attribute_fields e.attributes)) _ (sym (fitting-append (each attribute_fields e.attributes) (text_fields e.text)) ∙ p₃))

events_short : (es : List Event) → fitting (each event_fields es) ≡ true → Each (λ (e : Event). length e.text.codes ≤ 255) es
events_short [] h = nil
events_short (e ∷ es) h =
    let p = both_true (fitting (event_fields e)) _ (sym (fitting-append (event_fields e) (each event_fields es)) ∙ h) in
    and (event_short e p.0) (events_short es p.1)

pub menu-strings :
    (application : ℕ) (r : List ℕ) (m : Menu) (c : ℕ) → Bytes r → read_menu application r ≡ accepted m c
    → (length m.header.codes ≤ 255) × Each (λ (e : Event). length e.text.codes ≤ 255) m.events
menu-strings application r m c b e =
    let s = (accepted-says application r m c b e).0 in
    let can : fits m ≡ true = subst (λ (x : Menu). fits x ≡ true) s.meant (plain_fits s.content s.says.sendable) in
    let p = fits-parts m can in
    (text-short m.header p.fits_header, events_short m.events p.fits_events)
