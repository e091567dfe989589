-- The format of table 19 is lawful: what is laid is read back, and what is read fits and is laid again as it was. The law is put together
-- as the format is. A menu's counts are always those of what they count, and its strings are the header's codes and the events'. Assumes
-- nothing.
use mathlib.Core.Path.{◌≡◌, ◌∙◌, refl, sym, ap, ap₂}
use mathlib.Core.Bool.{Bool, true, false, true≢false}
use mathlib.Core.List.{List, ◌∷◌, ◌++◌}
use Prim.Native.Nat.{ℕ, ◌+◌, ◌*◌, ◌%◌, ◌<◌}
use native.Mathlib.Omega.{arith}
use borrow.Author.Tests.{ltb-true, lt-ltb, eqb-true, eq-eqb}
use lib.Dec.{eqb, ltb}
use lib.ListN.{length}
use Rattle.laws.specs.Pick.{both}
use Rattle.laws.proofs.Tests.{both_first, both-second, both_true, both-holds, either_true}
use Rattle.fields.specs.Fields.{Field, width, fitting}
use Rattle.fields.proofs.Laid.{fitting-append}
use Rattle.codecs.specs.Rows.{each}
use Rattle.codecs.specs.Codec.{Codec, row_whole, counted}
use Rattle.codecs.proofs.Codes.{each_none, each-alike}
use Rattle.codecs.proofs.Lawful.{Lawful, number-lawful, filling-lawful, codes-lawful, then-lawful, row_lawful, seen-lawful, counted-lawful, row-whole, counted-whole}
use Rattle.menu_forms.specs.Menus.{Text, Event, Menu, Spare, zeros, Body, Ordered, three, descriptor_format, escape_format, attribute_format, text_format, event_format, fill_up, ordered, named, lead, rest, behind, navigation, content, menu_sent, codes_of, strings, fits}
use Rattle.menu_forms.specs.Menus.{fields, descriptor_fields, text_fields, event_fields, fill_fields, control, size, sevens}
use Rattle.kinds.specs.Kind.{Content, bits as kind_bits, control as kind_control, size as kind_size, strings as kind_strings, fits as kind_fits}
use Rattle.kinds.proofs.Fronts.{Owed}
use Rattle.kinds.proofs.Sendable.{sendable, sends}
use Rattle.menu_forms.proofs.Forms.{Fitting, fitting-parts, fits-parts}
use Rattle.menu_forms.proofs.Nibbled.{fill-fits, menu-whole}

three-lawful : (u v w : ℕ) → Lawful (three u v w)
three-lawful u v w = then-lawful (number-lawful u) (λ a. then-lawful (number-lawful v) (λ b. number-lawful w))

descriptor-lawful : Lawful descriptor_format
descriptor-lawful = seen-lawful _ _ (three-lawful _ _ _) (λ d. refl) (λ r e. refl)

escape_lawful : Lawful escape_format
escape_lawful = seen-lawful _ _ (three-lawful _ _ _) (λ e. refl) (λ r e. refl)

attribute_lawful : Lawful attribute_format
attribute_lawful = seen-lawful _ _ (then-lawful (number-lawful _) (λ kind. number-lawful _)) (λ a. refl) (λ r e. refl)

text-lawful : Lawful text_format
unfolding text_format
text-lawful =
    seen-lawful (λ t. (t.escapes, (length t.codes, t.codes))) (λ r. record { escapes = r.0; codes = r.1.1 })
    (then-lawful (counted-lawful 8 escape_lawful) (λ escapes. then-lawful (number-lawful 8) codes-lawful)) (λ t. refl)
    (λ r e. ap (λ (k : ℕ). (r.0, (k, r.1.1))) (eqb-true (length r.1.1) r.1.0 (both-second ((counted 8 escape_format).whole r.0) _ e)))

event_lawful : Lawful event_format
unfolding event_format
event_lawful =
    seen-lawful (λ e. (e.link, (e.link_type, (e.attributes, e.text))))
    (λ r. record { link = r.0; link_type = r.1.0; attributes = r.1.1.0; text = r.1.1.1 })
    (then-lawful (number-lawful 16) (λ link. then-lawful (number-lawful 4) (λ type. then-lawful (counted-lawful 4 attribute_lawful) (λ attributes. text-lawful))))
    (λ e. refl) (λ r e. refl)

fill-lawful : (count : ℕ) → Lawful (fill_up count)
unfolding fill_up
fill-lawful count = filling-lawful (eqb (count % 2) 0) 4

-- there are as many events as are counted
events_counted : (r : Ordered) → (lead rest).whole r ≡ true → ordered (named r) ≡ r
events_counted (g, (h, (n, (i, (j, (ds, (k, (tx, (ms, es))))))))) w =
    let v = both-second ((counted 6 descriptor_format).whole ds) _ w in
    let u = both-second ((fill_up (length ds)).whole k) _ v in
    let t = both-second (text_format.whole tx) _ u in
    ap (λ (x : ℕ). (g, (h, (x, (i, (j, (ds, (k, (tx, (ms, es))))))))))
    (eqb-true (length es) n (both_first (eqb (length es) n) (row_whole event_format es) t))

rest-lawful : (events : ℕ) → Lawful (rest events)
rest-lawful events =
    then-lawful (counted-lawful _ descriptor-lawful) (λ descriptors. then-lawful (fill-lawful _) (λ second. then-lawful text-lawful (λ header.
    then-lawful (number-lawful _) (λ message. row_lawful event_lawful events))))

lead-lawful : {A : Type 0} {follows : ℕ → Codec A} → ((events : ℕ) → Lawful (follows events)) → Lawful (lead follows)
lead-lawful p =
    then-lawful (number-lawful _) (λ block. then-lawful (number-lawful _) (λ header_size. then-lawful (number-lawful _) (λ events.
    then-lawful (number-lawful _) (λ message_size. then-lawful (number-lawful _) (λ first. p events)))))

behind-lawful : Lawful behind
behind-lawful = seen-lawful ordered named (lead-lawful rest-lawful) (λ b. refl) events_counted

-- so menus are a kind that is read exactly
pub owed : Owed navigation
owed = record { lawful = λ kind. behind-lawful; silent = λ e c. absurd (true≢false e) }

-- ---- counts

text-whole : (t : Text) → text_format.whole t ≡ true
unfolding text_format
text-whole t =
    both-holds ((counted 8 escape_format).whole t.escapes) _ (counted-whole escape_format (λ e. refl) 8 t.escapes) (eq-eqb (length t.codes) (length t.codes) refl)

event_whole : (e : Event) → event_format.whole e ≡ true
unfolding event_format
event_whole e =
    both-holds ((counted 4 attribute_format).whole e.attributes) _ (counted-whole attribute_format (λ a. refl) 4 e.attributes) (text-whole e.text)

-- where there is no fill_up_2, it is 0
behind-whole : (b : Body) → (fill_up (length b.descriptors)).whole b.second ≡ true → behind.whole b ≡ true
behind-whole b h =
    both-holds ((counted 6 descriptor_format).whole b.descriptors) _ (counted-whole descriptor_format (λ d. refl) 6 b.descriptors)
    (both-holds ((fill_up (length b.descriptors)).whole b.second) _ h
    (both-holds (text_format.whole b.header) _ (text-whole b.header)
    (both-holds (eqb (length b.events) (length b.events)) _ (eq-eqb (length b.events) (length b.events) refl) (row-whole event_format event_whole b.events))))

-- ---- strings

pub text-strings : (t : Text) → text_format.strings t ≡ t.codes
unfolding text_format
text-strings t = ap (λ (l : List ℕ). l ++ t.codes) (each_none t.escapes)

pub event_strings : (e : Event) → event_format.strings e ≡ codes_of e
unfolding event_format
event_strings e = ap (λ (l : List ℕ). l ++ text_format.strings e.text) (each_none e.attributes) ∙ text-strings e.text

pub strings_are : (m : Menu) → strings m ≡ m.header.codes ++ each codes_of m.events
unfolding strings fill_up
strings_are m =
    ap (λ (l : List ℕ). l ++ (text_format.strings m.header ++ each event_format.strings m.events)) (each_none m.descriptors)
    ∙ ap₂ (λ (x y : List ℕ). x ++ y) (text-strings m.header) (each-alike event_strings m.events)

-- ---- what can be sent

same_test : (a b : Bool) → (a ≡ true → b ≡ true) → (b ≡ true → a ≡ true) → a ≡ b
same_test true b f g = sym (f refl)
same_test false true f g = g refl
same_test false false f g = refl

-- none is 0
none-whole : (count : ℕ) → (fill_up count).whole 0 ≡ true
unfolding fill_up
none-whole count = either_true (eqb (count % 2) 0)

module _ (sum control : ℕ) (spare : Spare) (m : Menu) where
  -- a menu that can be sent fits the format, whatever stands beside it
  sent-fits :
      Fitting m → sum < 256 → control < 1024 → spare.reserved < 2 → spare.first < 2 → spare.second < 16
      → fitting (fields sum control spare m) ≡ true
  unfolding fields fitting
  sent-fits p hs hc hr hf h =
      let ds : List Field = each descriptor_fields m.descriptors in
      let fl : List Field = fill_fields (length m.descriptors) spare.second in
      let tx : List Field = text_fields m.header in
      let ev : List Field = (8, m.message) ∷ each event_fields m.events in
      rw (
        lt-ltb sum 256 hs,
        lt-ltb control 1024 hc,
        lt-ltb m.copyright 2 p.fits_copyright,
        lt-ltb spare.reserved 2 hr,
        lt-ltb m.block 65536 p.fits_block,
        lt-ltb m.header_size 4 p.fits_lines,
        lt-ltb (length m.events) 16 p.fits_count,
        lt-ltb m.message_size 8 p.fits_rows,
        lt-ltb spare.first 2 hf,
        lt-ltb (length m.descriptors) 64 p.fits_number,
        fitting-append ds (fl ++ (tx ++ ev)),
        p.fits_descriptors,
        fitting-append fl (tx ++ ev),
        fill-fits (length m.descriptors) spare.second h,
        fitting-append tx ev,
        p.fits_header,
        lt-ltb m.message 256 p.fits_message,
        p.fits_events,
      )

-- a content whose values fit, with these spare bits
content-sends :
    (spare : Spare) (m : Menu) → Fitting m → m.header_size < 3 → sevens (strings m) ≡ true → size m < 2048 → spare.reserved < 2
    → spare.first < 2
    → spare.second < 16
    → (fill_up (length m.descriptors)).whole spare.second ≡ true
    → kind_fits navigation (content spare m) ≡ true
unfolding strings fields fill_up
content-sends spare m p h v z hr hf hs w =
    let same : kind_control navigation (content spare m) ≡ control m = omega (arith, menu-whole 0 0 spare m, menu-whole 0 0 zeros m) in
    let long : kind_size navigation (content spare m) ≡ size m = ap (λ (x : ℕ). 2 * x + length (strings m)) same in
    sends navigation (content spare m)
    (record {
      asked = refl;
      fine = lt-ltb m.header_size 3 h;
      entire = behind-whole (content spare m).body w;
      fitted = sent-fits 0 (kind_control navigation (content spare m)) spare m p (omega arith) (omega (arith, same)) hr hf hs;
      seven = v;
      small = omega (arith, long);
    })

-- the spare bits of a content, and that it has the bits of its menu
abbrev pub spare_of : Content Body → Spare
spare_of c = record { reserved = c.reserved; first = c.body.first; second = c.body.second }

pub bits-sent : (c : Content Body) → kind_bits navigation c ≡ width (fields 0 0 (spare_of c) (menu_sent c))
unfolding fields width
bits-sent c = refl

-- so both sizes are those of its menu
pub control-sent : (c : Content Body) → kind_control navigation c ≡ control (menu_sent c)
control-sent c = omega (arith, bits-sent c, menu-whole 0 0 (spare_of c) (menu_sent c))

pub size-sent : (c : Content Body) → kind_size navigation c ≡ size (menu_sent c)
unfolding strings fill_up
size-sent c = ap (λ (x : ℕ). 2 * x + length (kind_strings navigation c)) (control-sent c)

-- of a content that can be sent: its menu can be, with spare bits of 0
pub plain_fits : (c : Content Body) → kind_fits navigation c ≡ true → fits (menu_sent c) ≡ true
unfolding fits strings fill_up
plain_fits c h =
    let s = sendable navigation c h in
    let m = menu_sent c in
    content-sends zeros m (fitting-parts 0 (kind_control navigation c) c s.fitted) (ltb-true m.header_size 3 s.fine) s.seven (omega (arith, s.small, size-sent c))
    (omega arith) (omega arith) (omega arith) (none-whole (length m.descriptors))

-- and with any others that fit: fill_up_2 is 0 where there is none
pub spare_fits :
    (spare : Spare) (m : Menu) → fits m ≡ true → spare.reserved < 2 → spare.first < 2 → spare.second < 16
    → (fill_up (length m.descriptors)).whole spare.second ≡ true
    → kind_fits navigation (content spare m) ≡ true
unfolding fits strings fields
spare_fits spare m h hr hf hs w =
    let s = sendable navigation (content zeros m) h in
    content-sends spare m (fits-parts m h) (ltb-true m.header_size 3 s.fine) s.seven s.small hr hf hs w

-- what a menu that can be sent is, in one test
pub fits_by : (m : Menu) → fits m ≡ both (both (fitting (fields 0 0 zeros m)) (both (ltb m.header_size 3) (sevens (strings m)))) (ltb (size m) 2048)
unfolding fits strings fields
fits_by m =
    same_test (fits m) (both (both (fitting (fields 0 0 zeros m)) (both (ltb m.header_size 3) (sevens (strings m)))) (ltb (size m) 2048))
    (λ h.
    let s = sendable navigation (content zeros m) h in
    both-holds (both (fitting (fields 0 0 zeros m)) _) _
    (both-holds (fitting (fields 0 0 zeros m)) _ (sent-fits 0 0 zeros m (fits-parts m h) (omega arith) (omega arith) (omega arith) (omega arith) (omega arith))
    (both-holds (ltb m.header_size 3) _ s.fine s.seven))
    (lt-ltb (size m) 2048 s.small))
    (λ h.
    let p = both_true (both (fitting (fields 0 0 zeros m)) (both (ltb m.header_size 3) (sevens (strings m)))) (ltb (size m) 2048) h in
    let q = both_true (fitting (fields 0 0 zeros m)) (both (ltb m.header_size 3) (sevens (strings m))) p.0 in
    let t = both_true (ltb m.header_size 3) (sevens (strings m)) q.1 in
    content-sends zeros m (fitting-parts 0 0 (content zeros m) q.0) (ltb-true m.header_size 3 t.0) t.1 (ltb-true (size m) 2048 p.1) (omega arith)
    (omega arith) (omega arith) (none-whole (length m.descriptors)))
