-- The round trip without loss: the walk along what stands for the bytes that arrive of a list of blocks meets fitting symbols, gives those
-- blocks as they landed and ends with nothing running. It holds of any bytes at all. Equations only. Assumes nothing.
use mathlib.Core.Path.{◌≡◌, ◌∙◌, refl, sym, ap, ap₂, subst}
use mathlib.Core.Bool.{true, false}
use mathlib.Core.List.{List, [], ◌∷◌, ◌++◌, map, append_assoc}
use Prim.Native.Nat.{ℕ, zero, suc, ◌+◌, ◌-◌, ◌*◌, ◌/◌, ◌%◌, ◌≤◌, ◌<◌}
use native.Mathlib.Omega.{arith}
use lib.Dec.{eqb, lit<}
use lib.ListN.{length, length-append, length-map, length-drop, replicate, take, drop}
use lib.Seq.{drop-drop, length-take-le}
use borrow.Author.Tests.{le-leb, lt-leb, lt-ltb}
use Rattle.laws.specs.Each.{Each, nil, and}
use Rattle.laws.specs.Pick.{pick}
use Rattle.octet.specs.Image.{image}
use Rattle.octet.specs.Hearing.{harm}
use Rattle.blocks.specs.Block.{Block, size_of}
use Rattle.symbols.specs.Stream.{Symbol, start, fill, bits, raw, symbols, fill_after, cell, cells_of, stream_of}
use Rattle.walk.specs.Mode.{Mode, scan, heading, body, full, block_with, step, emitted, ends}
use Rattle.claims.specs.Noise.{Fits}
use Rattle.claims.specs.Damage.{unlike, Placed, byte_in, last_page, sending_of, sendings, landed}
use Rattle.claims.proofs.Telling.{stands-nib, stands-harm, Told, heard, symbol_of, page_of, standing, stood, told}
use Rattle.claims.proofs.Walking.{Fit, skips, opens, nibble, byte, Plain, sent_ends, known, step-fill, step_start}
use Rattle.claims.proofs.Marking.{marked, turned, sent_first, sent_out, out_append}
use Rattle.claims.proofs.Packet.{sent_ends-append, plain-append, plain-left, plain_right}

-- the walk from m along zs, where the last block began in page p, meets fitting symbols, gives these blocks and ends in scan
pub record Sends (m : Mode) (p : ℕ) (zs : List Told) (bs : List Block) : Type 0 where
  pub plain : Plain m zs
  pub ends : sent_ends m zs ≡ scan
  pub gives : sent_out m p zs ≡ bs

nothing : (p : ℕ) → Sends scan p [] []
unfolding ends sent_out
nothing p = record { plain = tt; ends = refl; gives = refl }

-- one symbol more in front
onward :
    (m m' : Mode) (n : ℕ) (z : Told) (zs : List Told) (e bs : List Block) → Fit m (symbol_of z) → step m (stood z) ≡ m' → emitted m (stood z) ≡ e
    → Sends m' (turned n z) zs bs → Sends m n (z ∷ zs) (map (marked n (page_of z)) e ++ bs)
unfolding ends sent_out
onward m m' n z zs e bs f p q r =
    record {
      plain = (f, subst (λ (k : Mode). Plain k zs) (sym p) r.plain);
      ends = ap (λ (k : Mode). sent_ends k zs) p ∙ r.ends;
      gives =
          ap₂ (λ (l : List Block) (k : Mode). map (marked n (page_of z)) l ++ sent_out k (turned n z) zs) q p
          ∙ ap (λ (l : List Block). map (marked n (page_of z)) e ++ l) r.gives;
    }

-- one stretch after the other
pub sends-append :
    (m : Mode) (p : ℕ) (xs ys : List Told) {a b : List Block} → Sends m p xs a → Sends scan (sent_first p xs) ys b → Sends m p (xs ++ ys) (a ++ b)
sends-append m p xs ys {a} r t =
    record {
      plain = plain-append m xs ys r.plain (subst (λ (k : Mode). Plain k ys) (sym r.ends) t.plain);
      ends = sent_ends-append m xs ys ∙ ap (λ (k : Mode). sent_ends k ys) r.ends ∙ t.ends;
      gives =
          out_append m p xs ys
          ∙ ap (λ (k : Mode). sent_out m p xs ++ sent_out k (sent_first p xs) ys) r.ends
          ∙ ap (λ (l : List Block). l ++ sent_out scan (sent_first p xs) ys) r.gives
          ∙ ap (λ (l : List Block). a ++ l) t.gives;
    }

emitted-scan : (b : ℕ) → emitted scan b ≡ []
unfolding emitted
emitted-scan b = refl

-- filler
pub fills : (p n : ℕ) (cs : List Placed) → Sends scan p (told (replicate n fill) cs) []
unfolding told
fills p n [] = nothing p
fills p zero (c ∷ cs) =
    onward scan scan p (heard fill c) (told [] cs) [] [] skips (step-fill c.byte) (emitted-scan _) (fills p zero cs)
fills p (suc n) (c ∷ cs) =
    onward scan scan p (heard fill c) (told (replicate n fill) cs) [] [] skips (step-fill c.byte) (emitted-scan _) (fills p n cs)

-- ---- a block

module _ (g v part n c : ℕ) (h : n < 16) where
  -- what its byte adds to the part
  more : ℕ
  more = pick (eqb (image n) c) 0 1

  head_step : g < 3 → step (heading g v part) (standing (bits n) c) ≡ heading (suc g) (v / 16 + n * 4096) (part + more)
  unfolding step standing more
  head_step k = rw (stands-nib n c h, stands-harm n c h, known n h, lt-ltb g 3 k)

  head-gives : g < 3 → emitted (heading g v part) (standing (bits n) c) ≡ []
  unfolding emitted standing
  head-gives k = rw (stands-nib n c h, known n h, lt-ltb g 3 k)

last_step :
    (v part n c : ℕ) → n < 16
    → step (heading 3 v part) (standing (bits n) c)
    ≡ pick (full (v / 16 + n * 4096) []) scan (body (v / 16 + n * 4096) (part + pick (eqb (image n) c) 0 1) [])
unfolding step standing
last_step v part n c h = rw (stands-nib n c h, stands-harm n c h, known n h)

last-gives :
    (v part n c : ℕ) → n < 16
    → emitted (heading 3 v part) (standing (bits n) c)
    ≡ pick (full (v / 16 + n * 4096) []) (block_with (v / 16 + n * 4096) (part + pick (eqb (image n) c) 0 1) [] ∷ []) []
unfolding emitted standing
last-gives v part n c h = rw (stands-nib n c h, stands-harm n c h, known n h)

-- the raw bytes, of which at least one is to come
body_sends :
    (p h part : ℕ) (held : List ℕ) (b : ℕ) (c : Placed) (bs : List ℕ) (cs : List Placed) → length held + suc (length bs) ≡ size_of h
    → length cs ≡ length bs
    → Sends (body h part held) p (told (map raw (b ∷ bs)) (c ∷ cs))
    (marked p (last_page c.page cs) (block_with h part (held ++ map byte_in (c ∷ cs))) ∷ [])
unfolding step emitted told standing last_page
body_sends p h part held b c [] [] e l =
    let f : size_of h ≤ length (held ++ c.byte ∷ []) = rw length-append (omega arith) in
    onward (body h part held) scan p (heard (raw b) c) [] (block_with h part (held ++ c.byte ∷ []) ∷ []) [] byte
    (rw (le-leb (size_of h) (length (held ++ c.byte ∷ [])) f))
    (rw (le-leb (size_of h) (length (held ++ c.byte ∷ [])) f))
    (nothing p)
body_sends p h part held b c [] (d ∷ cs) e l = absurd (omega arith)
body_sends p h part held b c (x ∷ bs) [] e l = absurd (omega arith)
body_sends p h part held b c (x ∷ bs) (d ∷ cs) e l =
    let f : length (held ++ c.byte ∷ []) < size_of h = rw length-append (omega arith) in
    let rest : length (held ++ c.byte ∷ []) + suc (length bs) ≡ size_of h = rw length-append (omega arith) in
    onward (body h part held) (body h part (held ++ c.byte ∷ [])) p (heard (raw b) c) (told (map raw (x ∷ bs)) (d ∷ cs)) []
    (marked p (last_page d.page cs) (block_with h part (held ++ map byte_in (c ∷ d ∷ cs))) ∷ []) byte
    (rw (lt-leb (size_of h) (length (held ++ c.byte ∷ [])) f))
    (rw (lt-leb (size_of h) (length (held ++ c.byte ∷ [])) f))
    (subst
    (λ (k : List ℕ).
    Sends (body h part (held ++ c.byte ∷ [])) p (told (map raw (x ∷ bs)) (d ∷ cs)) (marked p (last_page d.page cs) (block_with h part k) ∷ []))
    (append_assoc held (c.byte ∷ []) (map byte_in (d ∷ cs)))
    (body_sends p h part (held ++ c.byte ∷ []) x d bs cs rest (omega arith)))

-- four nibbles, lowest first, shift down to the 16 bits that they are of
shifts :
    (h : ℕ) → h < 65536
    → (((0 / 16 + h % 16 * 4096) / 16 + h / 16 % 16 * 4096) / 16 + h / 16 / 16 % 16 * 4096) / 16 + h / 16 / 16 / 16 % 16 * 4096 ≡ h
shifts h k = omega arith

-- the fourth nibble, which makes the 16 bits w, and the raw bytes
last-sends :
    (p v part n w q : ℕ) (c : Placed) (l : List ℕ) (cs : List Placed) → n < 16 → v / 16 + n * 4096 ≡ w
    → part + pick (eqb (image n) c.byte) 0 1 ≡ q → length l ≡ size_of w → length cs ≡ length l
    → Sends (heading 3 v part) p (told (bits n ∷ map raw l) (c ∷ cs)) (marked p (last_page c.page cs) (block_with w q (map byte_in cs)) ∷ [])
unfolding told last_page
last-sends p v part n w q c [] [] h y x e k =
    let f : full w [] ≡ true = le-leb (size_of w) 0 (omega arith) in
    onward (heading 3 v part) scan p (heard (bits n) c) [] (block_with w q [] ∷ []) [] (nibble h)
    (last_step v part n c.byte h ∙ rw (y, f))
    (last-gives v part n c.byte h ∙ rw (y, x, f))
    (nothing p)
last-sends p v part n w q c [] (d ∷ cs) h y x e k = absurd (omega arith)
last-sends p v part n w q c (b ∷ bs) [] h y x e k = absurd (omega arith)
last-sends p v part n w q c (b ∷ bs) (d ∷ cs) h y x e k =
    let f : full w [] ≡ false = lt-leb (size_of w) 0 (omega arith) in
    onward (heading 3 v part) (body w q []) p (heard (bits n) c) (told (map raw (b ∷ bs)) (d ∷ cs)) []
    (marked p (last_page d.page cs) (block_with w q (map byte_in (d ∷ cs))) ∷ []) (nibble h)
    (last_step v part n c.byte h ∙ rw (y, x, f))
    (last-gives v part n c.byte h ∙ rw (y, f))
    (body_sends p w q [] b d bs cs (omega arith) (omega arith))

-- a nibble before the fourth
head-sends :
    (p g v part n : ℕ) (c : Placed) (ss : List Symbol) (cs : List Placed) (bs : List Block) → n < 16 → g < 3
    → Sends (heading (suc g) (v / 16 + n * 4096) (part + pick (eqb (image n) c.byte) 0 1)) p (told ss cs) bs
    → Sends (heading g v part) p (told (bits n ∷ ss) (c ∷ cs)) bs
unfolding told more
head-sends p g v part n c ss cs bs h k r =
    onward (heading g v part) (heading (suc g) (v / 16 + n * 4096) (part + more g v part n c.byte h)) p (heard (bits n) c) (told ss cs) [] bs (nibble h)
    (head_step g v part n c.byte h k) (head-gives g v part n c.byte h k) r

-- the start counts in the part as it was heard
start-harm : (c : ℕ) → harm (standing start c) ≡ pick (eqb (image 12) c) 0 1
unfolding standing
start-harm c = stands-harm 12 c (lit< tt)

start-step : (c : ℕ) → step scan (standing start c) ≡ heading 0 0 (pick (eqb (image 12) c) 0 1)
start-step c = step_start c ∙ ap (heading 0 0) (start-harm c)

-- the five first bytes, each other than it was sent or not
five :
    (a b c d e : ℕ)
    → a + b + c + d + e ≡ a + (b + (c + (d + (e + 0))))
five a b c d e = omega arith

-- a block: its start, its 16 bits, its raw bytes
symbols-send :
    (p : ℕ) (b : Block) (cs : List Placed) → Fits b → length cs ≡ length (symbols b)
    → Sends scan p (told (symbols b) cs) (landed (sending_of b cs) ∷ [])
unfolding symbols told unlike last_page
symbols-send p b [] f l = absurd (omega arith)
symbols-send p b (c₀ ∷ []) f l = absurd (omega arith)
symbols-send p b (c₀ ∷ c₁ ∷ []) f l = absurd (omega arith)
symbols-send p b (c₀ ∷ c₁ ∷ c₂ ∷ []) f l = absurd (omega arith)
symbols-send p b (c₀ ∷ c₁ ∷ c₂ ∷ c₃ ∷ []) f l = absurd (omega arith)
symbols-send p b (c₀ ∷ c₁ ∷ c₂ ∷ c₃ ∷ c₄ ∷ cs) f l =
    let k : length cs ≡ length b.raw = omega (arith, length-map b.raw raw) in
    let third : List Symbol = bits (b.head / 16 / 16 / 16 % 16) ∷ map raw b.raw in
    let second : List Symbol = bits (b.head / 16 / 16 % 16) ∷ third in
    let first : List Symbol = bits (b.head / 16 % 16) ∷ second in
    onward scan (heading 0 0 _) p (heard start c₀) _ [] _ opens (start-step c₀.byte) (emitted-scan _)
    (head-sends c₀.page 0 _ _ _ c₁ first (c₂ ∷ c₃ ∷ c₄ ∷ cs) _ (omega arith) (omega arith)
    (head-sends c₀.page 1 _ _ _ c₂ second (c₃ ∷ c₄ ∷ cs) _ (omega arith) (omega arith)
    (head-sends c₀.page 2 _ _ _ c₃ third (c₄ ∷ cs) _ (omega arith) (omega arith)
    (last-sends c₀.page _ _ _ b.head _ c₄ b.raw cs (omega arith) (shifts b.head f.head) (five _ _ _ _ _) f.size k))))

-- ---- a list of blocks

-- symbols that are all there, and those after them
told-parts :
    (ss ts : List Symbol) (cs : List Placed) → length ss ≤ length cs
    → told (ss ++ ts) cs ≡ told ss (take (length ss) cs) ++ told ts (drop (length ss) cs)
unfolding told
told-parts [] ts cs h = refl
told-parts (s ∷ ss) ts [] h = absurd (omega arith)
told-parts (s ∷ ss) ts (c ∷ cs) h = ap (λ (l : List Told). heard s c ∷ l) (told-parts ss ts cs (omega arith))

pub stream-sends :
    (p : ℕ) {bs : List Block} → Each Fits bs → (cs : List Placed) → length (stream_of bs) ≤ length cs
    → Sends scan p (told (stream_of bs) cs) (map landed (sendings bs cs))
unfolding stream_of sendings cells_of
stream-sends p nil cs h = fills p 0 cs
stream-sends p (and {a = b} {l = bs} f r) cs h =
    let ss = symbols b in
    let ls = length (symbols b) in
    let behind = fill_after (length (symbols b)) in
    let lf = length (fill_after (length (symbols b))) in
    let n : length (ss ++ behind) ≡ ls + lf = length-append ss behind in
    let w : length (ss ++ behind ++ stream_of bs) ≡ ls + lf + length (stream_of bs) = length-append (ss ++ behind) (stream_of bs) ∙ rw n in
    let first : length (take ls cs) ≡ ls = length-take-le ls cs (omega arith) in
    let left : length (drop ls cs) ≡ length cs - ls = length-drop ls cs in
    let further : length (drop (length (ss ++ behind)) cs) ≡ length cs - length (ss ++ behind) = length-drop (length (ss ++ behind)) cs in
    let e : told (ss ++ behind ++ stream_of bs) cs
    ≡ told ss (take ls cs) ++ (told behind (take lf (drop ls cs)) ++ told (stream_of bs) (drop (length (ss ++ behind)) cs))
    = ap (λ (l : List Symbol). told l cs) (append_assoc ss behind (stream_of bs))
    ∙ told-parts ss (behind ++ stream_of bs) cs (omega arith)
    ∙ ap (λ (l : List Told). told ss (take ls cs) ++ l)
    (told-parts behind (stream_of bs) (drop ls cs) (omega arith)
    ∙ ap (λ (l : List Placed). told behind (take lf (drop ls cs)) ++ told (stream_of bs) l) (drop-drop lf ls cs ∙ rw n)) in
    rw e
    (sends-append scan p (told ss (take ls cs)) _ (symbols-send p b (take ls cs) f first)
    (sends-append scan _ (told behind (take lf (drop ls cs))) _ (fills _ (ls * 2 % cell) (take lf (drop ls cs)))
    (stream-sends (sent_first (sent_first p (told ss (take ls cs))) (told behind (take lf (drop ls cs)))) r (drop (length (ss ++ behind)) cs) (omega arith))))

-- ---- a walk goes on behind its first stretch

pub record Split (m : Mode) (p : ℕ) (xs ys : List Told) (bs : List Block) : Type 0 where
  pub plain : Plain m xs
  pub rest : List Block
  pub sends : Sends (sent_ends m xs) (sent_first p xs) ys rest
  pub gives : bs ≡ sent_out m p xs ++ rest

pub split : (m : Mode) (p : ℕ) (xs ys : List Told) {bs : List Block} → Sends m p (xs ++ ys) bs → Split m p xs ys bs
split m p xs ys r =
    record {
      plain = plain-left m xs ys r.plain;
      rest = sent_out (sent_ends m xs) (sent_first p xs) ys;
      sends =
          record {
            plain = plain_right m xs ys r.plain;
            ends = sym (sent_ends-append m xs ys) ∙ r.ends;
            gives = refl;
          };
      gives = sym r.gives ∙ out_append m p xs ys;
    }
