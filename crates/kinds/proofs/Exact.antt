-- Reading is exact, for any kind: a record is accepted as a value, with a count of mended bytes, exactly when it says that value and has
-- that count. What is read is laid again into the same nibbles and codes, and what is laid is read again. Assumes nothing.
use mathlib.Core.Path.{◌≡◌, ◌∙◌, refl, sym, ap, ap₂, subst}
use mathlib.Core.Bool.{Bool, true, false}
use mathlib.Core.Logic.{◌↔◌}
use mathlib.Core.List.{List, [], map, append-nil}
use Prim.Native.Nat.{ℕ, ◌+◌, ◌*◌, ◌/◌, ◌%◌, ◌^◌, ◌≤◌, ◌<◌}
use native.Mathlib.Nat.{mod-eq_of_lt}
use native.Mathlib.Omega.{arith}
use borrow.Author.Tests.{lt-ltb, eqb-true, eq-eqb}
use lib.Dec.{eqb, ltb}
use lib.ListN.{length, take, drop, length-map, length-take, length-drop}
use lib.Pow.{shr_lt}
use Rattle.laws.specs.Pick.{either}
use Rattle.laws.proofs.Tests.{both_true, both-holds}
use Rattle.laws.specs.Bytes.{Bytes}
use Rattle.laws.proofs.Byted.{bytes_drop}
use Rattle.answer.specs.Rules.{Every, none, more}
use Rattle.answer.proofs.Judging.{passes, every_append}
use Rattle.answer.proofs.Lent.{front-holds, back-holds}
use Rattle.answer.proofs.Steps.{first_holds, others_hold}
use Rattle.octet.specs.Decoding.{nib}
use Rattle.octet.proofs.Hearing.{harms_le}
use Rattle.parity.specs.Parity.{letter, odds}
use Rattle.blocks.specs.Block.{head_of}
use Rattle.fields.specs.Fields.{laid, fitting, parts, whole}
use Rattle.fields.proofs.Laid.{laid_lt, whole_lt, whole_parts}
use Rattle.codecs.proofs.Codes.{begins-all}
use Rattle.blocks.specs.Sums.{checksum, sound}
use Rattle.blocks.proofs.Nibbles.{sound-parts, sound-take}
use Rattle.blocks.proofs.Summing.{checksum_lt}
use Rattle.blocks.specs.Framing.{framing}
use Rattle.blocks.specs.Outcome.{accepted, refused}
use Rattle.blocks.proofs.Framed.{Framed, framed, frame-holds, part_most_lem, header_of, headed, accepts}
use Rattle.kinds.specs.Kind.{Kind, Content, Sent, sent, content_of, sevens, format, fields, bits, control, fill, strings, size, fits}
use Rattle.kinds.specs.Block.{nibbles, head_bits, checksum_of, Says, Means}
use Rattle.kinds.specs.Reading.{front_in, code_of, control_length, control_part, string_part, front_rules, whole_rules, body_rules, sum_rules, mended_of, sent_in, carried, content_in, length_rules, read_rules, read_as}
use Rattle.kinds.proofs.Fronts.{Owed, format-lawful, bits-any, four, control_lt}
use Rattle.kinds.proofs.Sendable.{Sendable, sendable, sends}
use Rattle.kinds.proofs.Strings.{letters_again, codes-seven, codes_again, letters-odd}
use Rattle.kinds.proofs.Parting.{Parted, parted, control_bytes, bytes_strings}
use Rattle.kinds.proofs.Laying.{nibbles-long, nibbles-sound, sum-apart}

-- ---- what the rules say

module _ {B : Type 0} (k : Kind B) where
  -- of the nibbles and the string bytes behind the frame, and of what they carry
  record Bodied (head : ℕ) (ns bs : List ℕ) (s : Sent B) : Type 0 where
    kind : k.asked (front_in ns).kind ≡ true
    clear : (front_in ns).access ≡ 0
    decodes : sound ns ≡ length ns
    odd : odds bs ≡ length bs
    agrees : (front_in ns).checksum ≡ checksum head ns
    own : k.fine (head / 32) s.1 ≡ true
    control_said : s.0.control ≡ control k (content_of s)
    size_said : head / 32 ≡ size k (content_of s)

  module _ (head : ℕ) (raw : List ℕ) where
    abbrev ns : List ℕ
    ns = map nib (control_part k.spoken raw)

    abbrev bs : List ℕ
    bs = string_part k.spoken raw

    abbrev s : Sent B
    s = carried k raw

    bodied : Every (body_rules k.asked k.spoken head raw) → Every (length_rules k (head / 32) s) → Bodied head ns bs s
    unfolding front_rules whole_rules length_rules
    bodied e₀ l₀ =
        let e₁ = others_hold e₀ in
        let e₃ = others_hold (others_hold e₁) in
        let e₄ = others_hold e₃ in
        let p = both_true (k.asked (front_in ns).kind) (eqb (front_in ns).access 0) (first_holds e₁) in
        let t = both_true (eqb s.0.control (control k (content_of s))) (eqb (head / 32) (size k (content_of s))) (first_holds (others_hold l₀)) in
        record {
          kind = p.0;
          clear = eqb-true (front_in ns).access 0 p.1;
          decodes = eqb-true (sound ns) (length ns) (first_holds e₃);
          odd = eqb-true (odds bs) (length bs) (first_holds e₄);
          agrees = eqb-true (front_in ns).checksum (checksum head ns) (first_holds (others_hold e₄));
          own = first_holds l₀;
          control_said = eqb-true s.0.control (control k (content_of s)) t.0;
          size_said = eqb-true (head / 32) (size k (content_of s)) t.1;
        }

    body-holds :
        8 ≤ length ns → either k.spoken (eqb (head / 32 % 2) 0) ≡ true → Bodied head ns bs s
        → Every (body_rules k.asked k.spoken head raw) × Every (length_rules k (head / 32) s)
    unfolding front_rules whole_rules length_rules
    body-holds eight even q = (
      more (eq-eqb (sound (take 8 ns)) 8 (sound-take 8 ns q.decodes eight))
          (more
          (both-holds (k.asked (front_in ns).kind) (eqb (front_in ns).access 0) q.kind (eq-eqb (front_in ns).access 0 q.clear))
          (more even
          (more (eq-eqb (sound ns) (length ns) q.decodes)
          (more (eq-eqb (odds bs) (length bs) q.odd) (more (eq-eqb (front_in ns).checksum (checksum head ns) q.agrees) none))))),
      more q.own
          (more
          (both-holds (eqb s.0.control (control k (content_of s))) (eqb (head / 32) (size k (content_of s)))
          (eq-eqb s.0.control (control k (content_of s)) q.control_said) (eq-eqb (head / 32) (size k (content_of s)) q.size_said))
          none),
    )

  -- what every rule of reading says
  taken :
      (application : ℕ) (r : List ℕ) → Every (read_rules k application r)
      → Framed application r × Bodied (head_of r) (ns (head_of r) (drop 4 r)) (bs (head_of r) (drop 4 r)) (carried k (drop 4 r))
  taken application r e =
      let raw = drop 4 r in
      let body = body_rules k.asked k.spoken (head_of r) raw in
      let own = length_rules k (head_of r / 32) (carried k raw) in
      let first = front-holds (sum_rules k.asked k.spoken application r) own e in (
        framed application r (front-holds (framing application r) body first),
        bodied (head_of r) raw (back-holds (framing application r) body first) (back-holds (sum_rules k.asked k.spoken application r) own e),
      )

-- ---- accepted as what it says

module _ {B : Type 0} (k : Kind B) (o : Owed k) (application : ℕ) (r : List ℕ) (f : Framed application r) where
  abbrev raw : List ℕ
  raw = drop 4 r

  abbrev nibs : List ℕ
  nibs = map nib (control_part k.spoken raw)

  abbrev tail : List ℕ
  tail = string_part k.spoken raw

  abbrev cs : List ℕ
  cs = map code_of tail

  abbrev it : Sent B
  it = carried k raw

  abbrev c : Content B
  c = content_of it

  abbrev n : ℕ
  n = whole 4 nibs

  abbrev filling : ℕ
  filling = n / 2 ^ bits k c

  module _ (q : Bodied k (head_of r) nibs tail it) where
    raw-long : length raw ≡ size k c
    raw-long = omega (arith, length-drop 4 r, f.long, q.size_said)

    control-first : k.spoken ≡ true → (front_in (map nib (take 8 raw))).control ≡ control k c
    unfolding sent_in front_in
    control-first e =
        control_bytes raw (control_length raw) (omega arith)
        ∙ ap (λ (t : Bool). (front_in (map nib (control_part t raw))).control) (sym e)
        ∙ q.control_said

    cut : Parted k.spoken raw (2 * control k c)
    cut =
        parted k.spoken raw (control k c) control-first (four k c) (omega (arith, raw-long))
        (λ e. omega (arith, raw-long, ap length (o.silent e c)))

    nibs-long : length nibs ≡ 2 * control k c
    nibs-long =
        length-map (control_part k.spoken raw) nib ∙ ap length cut.first ∙ length-take (2 * control k c) raw ∙ (omega (arith, raw-long))

    cs-long : length cs ≡ length (strings k c)
    cs-long = length-map tail code_of ∙ ap length cut.rest ∙ length-drop (2 * control k c) raw ∙ (omega (arith, raw-long))

    -- its strings are all codes
    said-strings : cs ≡ strings k c
    unfolding sent_in
    said-strings = begins-all cs (strings k c) ((format-lawful k o).begins n cs) cs-long

    own-fields : (format k).fields it ≡ fields k it.0.checksum (control k c) c
    unfolding sent_in front_in
    own-fields = λ i.
        (format k).fields (
          record {
            checksum = it.0.checksum;
            control = q.control_said i;
            kind = it.0.kind;
            access = q.clear i;
            copyright = it.0.copyright;
            reserved = it.0.reserved;
          },
          it.1,
        )

    -- laid again it is all that stood there
    all : n ≡ laid (fields k it.0.checksum (control k c) c) filling
    unfolding sent_in
    all = (format-lawful k o).again n cs ∙ ap₂ laid own-fields (ap (λ (x : ℕ). n / 2 ^ x) (bits-any k it))

    own-nibbles : nibs ≡ nibbles k it.0.checksum filling c
    unfolding nibbles
    own-nibbles = sym (sound-parts nibs q.decodes) ∙ ap₂ (parts 4) nibs-long all

    filled : filling < 2 ^ fill k c
    filled =
        let wide : length nibs * 4 ≡ fill k c + bits k c = omega (arith, nibs-long) in
        shr_lt (fill k c) (bits k c) (subst (λ (x : ℕ). n < 2 ^ x) wide (whole_lt 4 nibs))

    values-fit : fitting (fields k 0 (control k c) c) ≡ true
    unfolding sent_in fitting
    values-fit =
        (both_true (ltb it.0.checksum (2 ^ 8)) _ (ap fitting (sym own-fields) ∙ (format-lawful k o).fits n cs)).1

    module _ (b : k.spoken ≡ true → Bytes r) where
      small : size k c < 2048
      unfolding sent_in front_in
      small = go k.spoken refl
        where
          go : (t : Bool) → k.spoken ≡ t → size k c < 2048
          go true e = omega (arith, q.size_said, b e 0, b e 1)
          go false e = omega (arith, control_lt nibs, q.control_said, ap length (o.silent e c))

      can : fits k c ≡ true
      unfolding sent_in front_in
      can =
          sends k c
          (record {
            asked = q.kind;
            fine = subst (λ (x : ℕ). k.fine x c.body ≡ true) q.size_said q.own;
            entire = (format-lawful k o).entire n cs;
            fitted = values-fit;
            seven = ap sevens (sym said-strings) ∙ codes-seven tail;
            small = small;
          })

      said-head : head_of r ≡ head_bits k application c
      said-head = header_of application (size k c) (head_of r) f.within small f.ours q.size_said

      said-sum : it.0.checksum ≡ checksum_of k application filling c
      unfolding checksum_of sent_in front_in
      said-sum = q.agrees ∙ ap₂ checksum said-head own-nibbles ∙ sum-apart k (head_bits k application c) it.0.checksum 0 filling c

      says : Says k application r c filling
      says =
          record {
            within = f.within;
            sendable = can;
            filled = filled;
            ranged = f.in_range;
            head = said-head;
            body = ap (map nib) (sym cut.first) ∙ own-nibbles ∙ ap (λ (x : ℕ). nibbles k x filling c) said-sum;
            codes =
                sym cut.rest
                ∙ sym (letters_again tail (bytes_strings k.spoken raw (λ e. bytes_drop 4 r (b e))) q.odd)
                ∙ ap (map letter) said-strings;
          }

-- ---- what says a content is accepted as it

module _ {B : Type 0} (k : Kind B) (o : Owed k) (application : ℕ) (r : List ℕ) (c : Content B) (filling : ℕ) (said : Says k application r c filling) where
  abbrev sum : ℕ
  sum = checksum_of k application filling c

  abbrev ours : List ℕ
  ours = nibbles k sum filling c

  abbrev block : List ℕ
  block = drop 4 r

  can-send : Sendable k c
  can-send = sendable k c said.sendable

  -- what it carries
  abbrev its_own : Sent B
  its_own = sent sum (control k c) c

  sum_fits : fitting ((format k).fields its_own) ≡ true
  unfolding fitting checksum_of
  sum_fits = both-holds (ltb sum (2 ^ 8)) _ (lt-ltb sum (2 ^ 8) (checksum_lt _ _)) can-send.fitted

  -- its nibbles and its strings carry it
  read_back : (format k).read (whole 4 ours) (strings k c) ≡ its_own
  unfolding nibbles
  read_back =
      let laid-it = laid ((format k).fields its_own) filling in
      let wide : fill k c + bits k c ≡ 2 * control k c * 4 = omega arith in
      let below : laid-it < 2 ^ (2 * control k c * 4) =
      subst (λ (x : ℕ). laid-it < 2 ^ x) (ap (λ (x : ℕ). fill k c + x) (bits-any k its_own) ∙ wide) (laid_lt ((format k).fields its_own) filling (fill k c) said.filled) in
      ap₂ (format k).read (whole_parts 4 (2 * control k c) laid-it ∙ mod-eq_of_lt below) (sym (append-nil (strings k c)))
      ∙ (format-lawful k o).back its_own filling [] can-send.entire sum_fits

  enough : 2 * control k c ≤ length block
  enough =
      omega (arith, length-map (take (2 * control k c) block) nib, length-take (2 * control k c) block, ap length said.body, nibbles-long k sum filling c)

  block-long : length block ≡ size k c
  block-long = omega (arith, enough, length-drop (2 * control k c) block, ap length said.codes, length-map (strings k c) letter)

  control_said : (front_in (map nib (take 8 block))).control ≡ control k c
  unfolding front_in
  control_said =
      control_bytes block (2 * control k c) (omega (arith, four k c)) ∙ ap (λ (l : List ℕ). (front_in l).control) said.body
      ∙ ap (λ (x : Sent B). x.0.control) read_back

  pub said-parts : Parted k.spoken block (2 * control k c)
  said-parts =
      parted k.spoken block (control k c) (λ e. control_said) (four k c) enough
      (λ e. omega (arith, block-long, ap length (o.silent e c)))

  said-nibbles : map nib (control_part k.spoken block) ≡ ours
  said-nibbles = ap (map nib) said-parts.first ∙ said.body

  said-tail : string_part k.spoken block ≡ map letter (strings k c)
  said-tail = said-parts.rest ∙ said.codes

  pub carried-said : carried k block ≡ its_own
  unfolding sent_in
  carried-said = ap₂ (λ (ns cs : List ℕ). (format k).read (whole 4 ns) cs) said-nibbles (ap (map code_of) said-tail ∙ codes_again (strings k c) can-send.seven) ∙ read_back

  -- what is read is what was said
  pub content-said : content_in k block ≡ c
  content-said = ap content_of carried-said

  headed-said : (head_of r % 32 ≡ application) × (head_of r / 32 ≡ size k c)
  headed-said = headed application (size k c) (head_of r) said.within can-send.small said.head

  framed-said : Framed application r
  framed-said =
      record {
        within = said.within;
        long = omega (arith, length-drop 4 r, block-long, four k c, headed-said.1);
        in_range = said.ranged;
        ours = headed-said.0;
        eight = omega (arith, headed-said.1, four k c);
      }

  even-said : either k.spoken (eqb (head_of r / 32 % 2) 0) ≡ true
  even-said = go k.spoken refl
    where
      go : (t : Bool) → k.spoken ≡ t → either t (eqb (head_of r / 32 % 2) 0) ≡ true
      go true e = refl
      go false e = eq-eqb (head_of r / 32 % 2) 0 (omega (arith, headed-said.1, ap length (o.silent e c)))

  bodied-said : Bodied k (head_of r) (map nib (control_part k.spoken block)) (string_part k.spoken block) (carried k block)
  unfolding front_in checksum_of
  bodied-said =
      let front-said : front_in ours ≡ its_own.0 = ap (λ (x : Sent B). x.0) read_back in
      let q : Bodied k (head_of r) ours (map letter (strings k c)) its_own =
      record {
        kind = ap (λ (x : Sent B). k.asked x.0.kind) read_back ∙ can-send.asked;
        clear = ap (λ (x : Sent B). x.0.access) read_back;
        decodes = nibbles-sound k sum filling c;
        odd = letters-odd (strings k c) can-send.seven;
        agrees =
            ap (λ (x : Sent B). x.0.checksum) read_back ∙ sum-apart k (head_bits k application c) 0 sum filling c
            ∙ ap (λ (h : ℕ). checksum h ours) (sym said.head);
        own = subst (λ (x : ℕ). k.fine x c.body ≡ true) (sym headed-said.1) can-send.fine;
        control_said = refl;
        size_said = headed-said.1;
      } in
      subst (Bodied k (head_of r) (map nib (control_part k.spoken block)) (string_part k.spoken block)) (sym carried-said)
      (subst (λ (x : List ℕ). Bodied k (head_of r) (map nib (control_part k.spoken block)) x its_own) (sym said-tail)
      (subst (λ (x : List ℕ). Bodied k (head_of r) x (map letter (strings k c)) its_own) (sym said-nibbles) q))

  pub says-rules : Every (read_rules k application r)
  says-rules =
      let eight : 8 ≤ length (map nib (control_part k.spoken block)) =
      omega (arith, ap length said-nibbles, nibbles-long k sum filling c, four k c) in
      let h = body-holds k (head_of r) block eight even-said bodied-said in
      every_append (every_append (frame-holds application r framed-said) h.0) h.1

-- ---- the second demand, for any kind: a record of our application is accepted as a value in clear, with a count, exactly when its two bytes
-- are in range, its control bytes decode, its string bytes are odd, its checksum agrees, its lengths fit and what else its kind asks is so,
-- and the count is that of its mended bytes

module _ {B : Type 0} (k : Kind B) (o : Owed k) {A : Type 0} (value : Content B → A) (application : ℕ) (r : List ℕ) where
  -- what holds every rule says the value that is read
  pub rules-mean : (k.spoken ≡ true → Bytes r) → Every (read_rules k application r) → Means k value application r (value (content_in k (drop 4 r)))
  rules-mean b e =
      let q = taken k application r e in
      record { content = c k o application r q.0; filling = filling k o application r q.0; says = says k o application r q.0 q.1 b; meant = refl }

  -- what is accepted says the value, and the count is its own
  pub accepted-means :
      (v : A) (m : ℕ) → (k.spoken ≡ true → Bytes r) → read_as k value application r ≡ accepted v m
      → Means k value application r v × (m ≡ mended_of k.spoken r)
  unfolding read_as
  accepted-means v m b e =
      let a = accepts (read_rules k application r) (value (content_in k (drop 4 r))) v (mended_of k.spoken r) m e in
      (subst (Means k value application r) a.1 (rules-mean b a.0), sym a.2)

  module _ (v : A) (s : Means k value application r v) where
    pub means-rules : Every (read_rules k application r)
    means-rules = says-rules k o application r s.content s.filling s.says

    pub value-meant : value (content_in k (drop 4 r)) ≡ v
    value-meant = ap value (content-said k o application r s.content s.filling s.says) ∙ s.meant

    -- and what says a value is accepted as it
    pub means-accepted : read_as k value application r ≡ accepted v (mended_of k.spoken r)
    unfolding read_as
    means-accepted =
        passes refused (accepted (value (content_in k (drop 4 r))) (mended_of k.spoken r)) means-rules
        ∙ ap (λ (x : A). accepted x (mended_of k.spoken r)) value-meant

  pub reads_exactly :
      (v : A) (m : ℕ) → (k.spoken ≡ true → Bytes r)
      → (read_as k value application r ≡ accepted v m) ↔ (Means k value application r v × (m ≡ mended_of k.spoken r))
  reads_exactly v m b = (accepted-means v m b, from)
    where
      from : Means k value application r v × (m ≡ mended_of k.spoken r) → read_as k value application r ≡ accepted v m
      from s = means-accepted v s.0 ∙ ap (accepted v) (sym s.1)

-- ---- what else every rule of reading says

module _ {B : Type 0} (k : Kind B) (o : Owed k) (application : ℕ) (r : List ℕ) (e : Every (read_rules k application r)) where
  -- each control byte decodes
  pub decodes-all : sound (map nib (control_part k.spoken (drop 4 r))) ≡ length (map nib (control_part k.spoken (drop 4 r)))
  decodes-all = (taken k application r e).1.decodes

  -- each string byte is of right parity
  pub odd-all : odds (string_part k.spoken (drop 4 r)) ≡ length (string_part k.spoken (drop 4 r))
  odd-all = (taken k application r e).1.odd

  -- there are twice as many control bytes as the control size of what is read says
  pub control-read : length (control_part k.spoken (drop 4 r)) ≡ 2 * control k (content_in k (drop 4 r))
  control-read =
      let q = taken k application r e in
      sym (length-map (control_part k.spoken (drop 4 r)) nib) ∙ nibs-long k o application r q.0 q.1

  -- a count is at most 5 and twice the greatest control size
  pub mended_most_lem : mended_of k.spoken r ≤ 2051
  unfolding mended_of sent_in front_in
  mended_most_lem =
      let q = taken k application r e in
      let bytes = control_part k.spoken (drop 4 r) in
      omega (arith, part_most_lem r q.0.in_range, harms_le bytes, control-read, q.1.control_said, control_lt (map nib bytes))
