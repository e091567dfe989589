-- Sheets joined in any order and grouping: joining is the merge of rising lists by the greater of two, and text and entries go over into
-- each other. Assumes nothing.
use mathlib.Core.Path.{◌≡◌, ◌∙◌, refl, sym, ap, subst}
use mathlib.Core.Bool.{Bool, true, false}
use mathlib.Core.List.{List, [], ◌∷◌, ◌++◌, map, map-append, append-nil}
use Prim.Native.Nat.{ℕ, ◌≤◌}
use native.Mathlib.Omega.{arith}
use lib.Dec.{leb}
use lib.ListN.{length, drop, length-append}
use borrow.Author.Tests.{leb-true, le-leb}
use Rattle.std.specs.declared.result.Result.TheVariants.{Ok}
use Rattle.laws.specs.Pick.{pick}
use Rattle.laws.specs.Each.{Each, nil, and}
use Rattle.laws.specs.Keyed.{rising_from, rising}
use Rattle.laws.specs.Orders.{in_turn, greater, Ordered, Decides}
use Rattle.laws.specs.Together.{Reordered, none, keep, Tree, one, two, leaves, merge_tree, total, Within, Allowed}
use Rattle.laws.proofs.Tests.{both_true, both-holds}
use Rattle.laws.proofs.Eaches.{each_left, each_right, each_all, each_map}
use Rattle.laws.proofs.Ordering.{ordered-numbers, ordered-on, ordered-before, ordered-turn, before-only, in-turn}
use Rattle.laws.proofs.Joined.{join-itself as itself}
use Rattle.laws.proofs.Trees.{Good, good-join, either_order, any-tree, each-reordered, reordered_map}
use Rattle.laws.proofs.Needs.{within-left, within-right, within-reordered, within-allowed}
use Rattle.answer.specs.Answer.{Answer}
use Rattle.answer.specs.Rules.{Every, none as all_hold, more}
use Rattle.answer.specs.Writing.{after}
use Rattle.answer.proofs.Lent.{lent-accepted}
use Rattle.sheet_entry.specs.Entries.{Entry, key_of, head_lines, table_lines, entry_text, written}
use Rattle.day_sheet.specs.Entries.{sheet_text, all_written, entry_limit, byte_limit}
use Rattle.day_sheet.specs.Reading.{sheet_of, InForm}
use Rattle.sheet_joins.specs.Joining.{by_stamp, by_lines, by_mended, at_most, joined}
use Rattle.day_sheet.specs.Calls.{entries_of, limited}
use Rattle.sheet_joins.specs.Calls.{join_rules, join_result}
use Rattle.sheet_joins.specs.AnyOrder.{join_answer, join_left, Joins, Run, lent, call, size_of, Room}
use Rattle.day_sheet.proofs.Choosing.{key-only}
use Rattle.day_sheet.proofs.Exact.{read-written, reads_exactly}
use Rattle.sheet_joins.proofs.Merged.{joined_merged}
use Rattle.sheet_entry.specs.declared.Form.{Form}
use Rattle.day_sheet.proofs.Fronts.{Fit}

-- ---- the order

pub by_stamp_lem : Ordered by_stamp
by_stamp_lem = ordered-on ordered-numbers (λ (e : Entry). e.stamp)

by_lines_lem : Ordered by_lines
by_lines_lem = ordered-on ordered-before table_lines

by_mended_lem : Ordered by_mended
by_mended_lem =
    let o = ordered-numbers in
    record { total = λ x y. o.total y.mended x.mended; carries = λ x y z p q. o.carries z.mended y.mended x.mended q p }

pub by_rest : Ordered (in_turn by_lines by_mended)
by_rest = ordered-turn by_lines_lem by_mended_lem

module _ (form : Form) where
  fit_all : (es : List Entry) → all_written form es ≡ true → Each (Fit form) es
  unfolding all_written
  fit_all [] w = nil
  fit_all (e ∷ es) w = let p = both_true (written form e) (all_written form es) w in and p.0 (fit_all es p.1)

  all_fit : {es : List Entry} → Each (Fit form) es → all_written form es ≡ true
  unfolding all_written
  all_fit nil = refl
  all_fit (and {a = x} {l = xs} p e) = both-holds (written form x) (all_written form xs) p (all_fit e)

  pub text-length : (es : List Entry) → length (sheet_text form es) ≡ total (size_of form) es
  unfolding sheet_text total
  text-length [] = refl
  text-length (e ∷ es) = length-append (entry_text form e) (sheet_text form es) ∙ rw (text-length es)

  swap-tests : (s t : Bool) (a r : Answer) → pick s (pick t a r) r ≡ pick t (pick s a r) r
  swap-tests true true a r = refl
  swap-tests true false a r = refl
  swap-tests false true a r = refl
  swap-tests false false a r = refl

  -- a tree of sheets as one of their entries
  unfoldable mapped : Tree (List ℕ) → Tree (List Entry)
  mapped (one sheet) = one (entries_of form sheet)
  mapped (two s t) = two (mapped s) (mapped t)

  first_two :
      {a b c sheet : List ℕ} → Run form (two (two (one a) (one b)) (one c)) sheet → (ab : List ℕ) × Joins form a b ab × Joins form ab c sheet
  first_two (call (call {c = ab} (lent a) (lent b) j) (lent c) k) = (ab, j, k)

  last-two :
      {a b c sheet : List ℕ} → Run form (two (one a) (two (one b) (one c))) sheet → (bc : List ℕ) × Joins form b c bc × Joins form a bc sheet
  last-two (call (lent a) (call {c = bc} (lent b) (lent c) j) k) = (bc, j, k)

  one_written : (e : Entry) → Fit form e → (sheet_of form (sheet_text form (e ∷ []))).items ≡ e ∷ []
  unfolding rising_from all_written
  one_written e w = ((reads_exactly form (sheet_text form (e ∷ [])) (e ∷ [])).1 (refl, rw (le-leb 0 (key_of e) (omega arith)), rw w)).1

  -- the text of one entry is a sheet in form, of that entry
  pub one-read : (e : Entry) → Fit form e → InForm form (entry_text form e) × (entries_of form (entry_text form e) ≡ e ∷ [])
  unfolding rising_from all_written sheet_text
  one-read e w =
      (reads_exactly form (entry_text form e) (e ∷ [])).1 (sym (append-nil (entry_text form e)), rw (le-leb 0 (key_of e) (omega arith)), rw w)

  -- entries of a key that stand above each other are equal
  tells-apart : (x y : Entry) → Fit form x → Fit form y → key_of x ≡ key_of y → at_most x y ≡ true → at_most y x ≡ true → x ≡ y
  unfolding head_lines entry_text sheet_text
  tells-apart x y v w e p q =
      let a = in-turn by_stamp_lem by_rest x y p in
      let b = in-turn by_stamp_lem by_rest y x q in
      let c = in-turn by_lines_lem by_mended_lem x y (a.1 b.0) in
      let d = in-turn by_lines_lem by_mended_lem y x (b.1 a.0) in
      let k = key-only form x y v w e in
      let s : x.stamp ≡ y.stamp = omega (arith, leb-true x.stamp y.stamp a.0, leb-true y.stamp x.stamp b.0) in
      let l : table_lines x ≡ table_lines y = before-only (table_lines x) (table_lines y) c.0 d.0 in
      let m : x.mended ≡ y.mended =
      omega (arith, leb-true y.mended x.mended (c.1 d.0), leb-true x.mended y.mended (d.1 c.0)) in
      let t : sheet_text form (x ∷ []) ≡ sheet_text form (y ∷ []) = rw (l, s, m, k.0, k.1, k.2) in
      let f : x ∷ [] ≡ y ∷ [] = sym (one_written x v) ∙ ap (λ (text : List ℕ). (sheet_of form text).items) t ∙ one_written y w in
      cc

  pub decides : Decides key_of (Fit form) at_most
  decides =
      record {
        ordered = ordered-turn by_stamp_lem by_rest;
        only = tells-apart;
      }

  abbrev Sheet : List Entry → Type 0
  Sheet = Good key_of (Fit form) at_most decides

  -- the entries of a sheet in form rise and can be written, and it is their text
  pub sheet-of : (sheet : List ℕ) → InForm form sheet → Sheet (entries_of form sheet)
  sheet-of sheet f = let e = read-written form sheet 0 f in record { rises = e.1; fit = fit_all (entries_of form sheet) e.2 }

  pub text_of : {es : List Entry} → Sheet es → InForm form (sheet_text form es) × (entries_of form (sheet_text form es) ≡ es)
  text_of {es} g = (reads_exactly form (sheet_text form es) es).1 (refl, g.rises, all_fit g.fit)

  pub sheet-joined : {xs ys : List Entry} → Sheet xs → Sheet ys → Sheet (joined xs ys)
  sheet-joined {xs} {ys} g h = rw (joined_merged xs ys) (good-join key_of (Fit form) at_most decides g h)

  -- ---- the calls

  -- what is within the limits is written
  pub joins :
      {xs ys : List Entry} → Sheet xs → Sheet ys → total (size_of form) xs ≤ byte_limit form → total (size_of form) ys ≤ byte_limit form
      → Allowed (size_of form) entry_limit (byte_limit form) (joined xs ys) → Joins form (sheet_text form xs) (sheet_text form ys) (sheet_text form (joined xs ys))
  unfolding join_rules join_result
  joins {xs} {ys} g h l m a =
      let t = text_of g in
      let u = text_of h in
      let r : join_result form (sheet_text form xs) (sheet_text form ys) ≡ joined xs ys = rw (t.1, u.1) in
      let n = text-length xs in
      let o = text-length ys in
      let p = text-length (joined xs ys) in
      let f = a.entries in
      let b = a.length_in_all in
      let kept : Every (limited form (joined xs ys)) =
      more (le-leb (length (joined xs ys)) entry_limit f)
      (more (le-leb (length (sheet_text form (joined xs ys))) (byte_limit form) (omega arith)) all_hold) in
      let every : Every (join_rules form (sheet_text form xs) (sheet_text form ys)) =
      more (le-leb (length (sheet_text form xs)) (byte_limit form) (omega arith))
      (more (le-leb (length (sheet_text form ys)) (byte_limit form) (omega arith)) (more t.0 (more u.0 (subst (λ (es : List Entry). Every (limited form es)) (sym r) kept)))) in
      let done : (out : List ℕ) → byte_limit form ≤ length out
      → (join_answer form (sheet_text form xs) (sheet_text form ys) out ≡ Ok (length (sheet_text form (join_result form (sheet_text form xs) (sheet_text form ys)))))
      × (join_left form (sheet_text form xs) (sheet_text form ys) out
      ≡ sheet_text form (join_result form (sheet_text form xs) (sheet_text form ys)) ++ drop (length (sheet_text form (join_result form (sheet_text form xs) (sheet_text form ys)))) out) =
      λ out big.
      lent-accepted (join_rules form (sheet_text form xs) (sheet_text form ys)) (sheet_text form (join_result form (sheet_text form xs) (sheet_text form ys))) out every
      (rw r (omega arith)) in
      record {
        answers = λ out big. (done out big).0 ∙ ap (λ (es : List Entry). Ok (length (sheet_text form es))) r;
        writes = λ out big. (done out big).1 ∙ ap (λ (es : List Entry). sheet_text form es ++ drop (length (sheet_text form es)) out) r;
      }

  -- ---- either order

  result-either : (first second : List ℕ) → InForm form first → InForm form second → join_result form first second ≡ join_result form second first
  unfolding join_result
  result-either first second f g =
      joined_merged (entries_of form first) (entries_of form second)
      ∙ either_order key_of (Fit form) at_most decides (sheet-of first f) (sheet-of second g)
      ∙ sym (joined_merged (entries_of form second) (entries_of form first))

  answer-either :
      (first second out : List ℕ) → InForm form first → InForm form second → join_answer form first second out ≡ join_answer form second first out
  unfolding join_rules
  answer-either first second out f g =
      rw (f, g, result-either first second f g) (swap-tests (leb (length first) (byte_limit form)) (leb (length second) (byte_limit form)) _ _)

  -- either order: for any two sheets in form the two orders answer the same and leave the same
  pub join-either-order :
      (first second out : List ℕ) → InForm form first → InForm form second
      → (join_answer form first second out ≡ join_answer form second first out) × (join_left form first second out ≡ join_left form second first out)
  join-either-order first second out f g =
      let a = answer-either first second out f g in
      let r = result-either first second f g in (
        a,
        ap (λ (x : Answer). after x (sheet_text form (join_result form first second)) out) a
            ∙ ap (λ (es : List Entry). after (join_answer form second first out) (sheet_text form es) out) r,
      )

  -- ---- any number of sheets

  leaves_map : (t : Tree (List ℕ)) → leaves (mapped t) ≡ map (entries_of form) (leaves t)
  unfolding leaves mapped
  leaves_map (one sheet) = refl
  leaves_map (two s t) = rw (leaves_map s, leaves_map t) (sym (map-append (entries_of form) (leaves s) (leaves t)))

  pub sheets-of : {sheets : List (List ℕ)} → Each (InForm form) sheets → Each Sheet (map (entries_of form) sheets)
  sheets-of e = each_map (entries_of form) sheet-of e

  good-leaves : (t : Tree (List ℕ)) → Each (InForm form) (leaves t) → Each Sheet (leaves (mapped t))
  good-leaves t e = rw (leaves_map t) (sheets-of e)

  -- the entries that the calls of a tree come to
  abbrev whole : Tree (List ℕ) → List Entry
  whole t = merge_tree key_of (greater at_most) (mapped t)

  rising-leaves : {xss : List (List Entry)} → Each Sheet xss → Each (λ (es : List Entry). rising key_of es ≡ true) xss
  rising-leaves e = each_all (λ es g. g.rises) e

  room_at : (t : Tree (List ℕ)) → Room form (leaves t) → Within key_of (size_of form) entry_limit (byte_limit form) (leaves (mapped t))
  room_at t r = rw (leaves_map t) r

  allowed_at : (t : Tree (List ℕ)) → Each (InForm form) (leaves t) → Room form (leaves t) → Allowed (size_of form) entry_limit (byte_limit form) (whole t)
  allowed_at t e r = within-allowed key_of (size_of form) (Fit form) at_most decides (mapped t) (good-leaves t e) (room_at t r)

  sheet-at : (t : Tree (List ℕ)) → Each (InForm form) (leaves t) → Sheet (whole t)
  unfolding leaves mapped merge_tree
  sheet-at (one sheet) (and f e) = sheet-of sheet f
  sheet-at (two s t) e =
      good-join key_of (Fit form) at_most decides (sheet-at s (each_left (leaves s) (leaves t) e)) (sheet-at t (each_right (leaves s) (leaves t) e))

  -- where the premise holds, every call of a tree is accepted, and the last one writes the sheet of its entries
  runs : (t : Tree (List ℕ)) → Each (InForm form) (leaves t) → Room form (leaves t) → Run form t (sheet_text form (whole t))
  unfolding leaves mapped merge_tree
  runs (one sheet) (and f e) r = rw (sym (read-written form sheet 0 f).0) (lent sheet)
  runs (two s t) e r =
      let a = each_left (leaves s) (leaves t) e in
      let b = each_right (leaves s) (leaves t) e in
      let w : Within key_of (size_of form) entry_limit (byte_limit form) (map (entries_of form) (leaves s) ++ map (entries_of form) (leaves t)) =
      rw (sym (map-append (entries_of form) (leaves s) (leaves t))) r in
      let g : Each (λ (es : List Entry). rising key_of es ≡ true) (map (entries_of form) (leaves s) ++ map (entries_of form) (leaves t)) =
      rw (sym (map-append (entries_of form) (leaves s) (leaves t))) (rising-leaves (sheets-of e)) in
      let p = within-left key_of (size_of form) (map (entries_of form) (leaves s)) (map (entries_of form) (leaves t)) g w in
      let q = within-right key_of (size_of form) (map (entries_of form) (leaves s)) (map (entries_of form) (leaves t)) g w in
      let m = joined_merged (whole s) (whole t) in
      call (runs s a p) (runs t b q)
      (subst (λ (es : List Entry). Joins form (sheet_text form (whole s)) (sheet_text form (whole t)) (sheet_text form es)) m
      (joins (sheet-at s a) (sheet-at t b) (allowed_at s a p).length_in_all (allowed_at t b q).length_in_all
      (rw m (allowed_at (two s t) e r))))

  -- every tree of calls over every order of the sheets gives the same sheet, and no call of it is refused
  pub any_order :
      (s t : Tree (List ℕ)) → Each (InForm form) (leaves s) → Reordered (leaves s) (leaves t) → Room form (leaves s)
      → (sheet : List ℕ) × Run form s sheet × Run form t sheet
  any_order s t e o r =
      let f = each-reordered o e in
      let m = reordered_map (entries_of form) o in
      let q = within-reordered key_of (size_of form) (rising-leaves (sheets-of e)) m r in
      let w : whole s ≡ whole t = any-tree key_of (Fit form) at_most decides (mapped s) (mapped t) (rw (leaves_map s, leaves_map t) m) (good-leaves s e) in
      (sheet_text form (whole s), runs s e r, rw w (runs t f q))

  -- either grouping of three, with outputs as long as the limit
  pub join-either-grouping :
      (a b c : List ℕ) → InForm form a → InForm form b → InForm form c → Room form (a ∷ b ∷ c ∷ [])
      → (ab : List ℕ) × (bc : List ℕ) × (abc : List ℕ) × Joins form a b ab × Joins form ab c abc × Joins form b c bc × Joins form a bc abc
  unfolding leaves
  join-either-grouping a b c f g h r =
      let s = two (two (one a) (one b)) (one c) in
      let t = two (one a) (two (one b) (one c)) in
      let x = any_order s t (and f (and g (and h nil))) (keep (keep (keep none))) r in
      let p = first_two x.1 in
      let q = last-two x.2 in
      (p.0, q.0, x.0, p.1, p.2, q.1, q.2)

  -- a sheet within the limits with itself
  pub join-itself :
      (sheet : List ℕ) → InForm form sheet → length (entries_of form sheet) ≤ entry_limit → length sheet ≤ byte_limit form → Joins form sheet sheet sheet
  join-itself sheet f n l =
      let e = read-written form sheet 0 f in
      let g = sheet-of sheet f in
      let k = text-length (entries_of form sheet) in
      let i : joined (entries_of form sheet) (entries_of form sheet) ≡ entries_of form sheet =
      joined_merged (entries_of form sheet) (entries_of form sheet) ∙ itself key_of (Fit form) at_most decides 0 (entries_of form sheet) g.rises in
      let m : length (sheet_text form (entries_of form sheet)) ≤ byte_limit form = rw (sym e.0) l in
      let a : Allowed (size_of form) entry_limit (byte_limit form) (entries_of form sheet) = record { entries = n; length_in_all = omega arith } in
      let j : Joins form (sheet_text form (entries_of form sheet)) (sheet_text form (entries_of form sheet)) (sheet_text form (joined (entries_of form sheet) (entries_of form sheet))) =
      joins g g (omega arith) (omega arith) (subst (Allowed (size_of form) entry_limit (byte_limit form)) (sym i) a) in
      let t : Joins form (sheet_text form (entries_of form sheet)) (sheet_text form (entries_of form sheet)) (sheet_text form (entries_of form sheet)) = rw i at j in
      rw (sym e.0) at t
