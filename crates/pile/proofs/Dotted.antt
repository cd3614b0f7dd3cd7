-- A block is read from a value exactly when the value writes it.
use Rattle.std.proofs.Common.{◌≡◌, ℕ, zero, suc, ◌+◌, ◌<◌, ◌≤◌, min, Bool, true, false, cond, eqb, ltb, leb, List, [], ◌∷◌, ◌++◌, length, get_or, take, drop, set, Some, None, codes, Option, sym, refl, ap, ◌∙◌, subst, ⊎_elim, append_assoc, arith, length-append, length-set}
use Rattle.std.specs.List.{prefix_len}
use Rattle.std.specs.Str.{bytes_eq}
use Rattle.std.proofs.lemmas.Slice.Eq.{bytes_eq-Decides}
use Rattle.std.proofs.lemmas.List.{take_at, drop_at, drop_more, take-append-drop, get_or-set_same, get_or-set_other, same_lists, get_or_default}
use Rattle.std.proofs.lemmas.Option.{slice_get-get_or}
use Rattle.std.proofs.lemmas.Bool.{cases_Bool, cases_lt, cases_eq, cond-true, cond-false, ltb-true, ltb-false, leb-true, lt-ltb, le-ltb, le-leb, eqb-true, eq-eqb, not-false}
use Rattle.std.proofs.lemmas.Bool.Decides.{nat_tests}
use Rattle.address.specs.declared.block.Block.{Block}
use Rattle.address.specs.Blocks.{no_dot, cut, onward, part_at, byte_from, byte_of, with_number, with_text, block_from, block_of, everything, WritesPart, Tidy, WritesBlock}
use Rattle.kind.specs.Digits.{digit, number, Writes}
use Rattle.pile.specs.Pile.{Exactly}
use Rattle.pile.proofs.Spelled.{first_passes, writes_from, number_from}

-- what can be taken out of a Some
taken_out : {X : Type 0} (x y : X) → Some x ≡ Some y → x ≡ y
taken_out x y e = cc

no_value : {X : Type 0} (x : X) → None ≡ Some x → ⊥
no_value x e = let z : ◌≡◌ {A = ℕ} 0 1 = cc in omega arith

of_onward : {X Y : Type 0} (o : Option X) (go : X → Option Y) (y : Y) → onward o go ≡ Some y → (x : X) × (o ≡ Some x) × (go x ≡ Some y)
of_onward None go y e = absurd (no_value y e)
of_onward (Some x) go y e = (x, refl, e)

-- where a run of bytes that pass a test ends
stops : (p : ℕ → Bool) (xs : List ℕ) → prefix_len p xs < length xs → p (get_or xs (prefix_len p xs) 0) ≡ false
stops p [] h = absurd (omega arith)
stops p (x ∷ xs) h =
    ⊎_elim
    (λ is.
    let e : prefix_len p (x ∷ xs) ≡ suc (prefix_len p xs) = cond-true (p x) (1 + prefix_len p xs) 0 is ∙ omega arith in
    let short : prefix_len p xs < length xs = omega arith in
    ap (λ n. p (get_or (x ∷ xs) n 0)) e ∙ stops p xs short)
    (λ is_not. ap (λ n. p (get_or (x ∷ xs) n 0)) (cond-false (p x) (1 + prefix_len p xs) 0 is_not) ∙ is_not)
    (cases_Bool (p x))

before_dot : (s r : List ℕ) → prefix_len no_dot s ≡ length s → prefix_len no_dot (s ++ (46 ∷ r)) ≡ length s
before_dot [] r e = refl
before_dot (x ∷ xs) r e =
    let first = first_passes no_dot x xs e in
    cond-true (no_dot x) (1 + prefix_len no_dot (xs ++ (46 ∷ r))) 0 first.0 ∙ ap (λ n. 1 + n) (before_dot xs r first.1) ∙ omega arith

-- a text without dots, a dot and another text, cut apart
cut_dot : (s r : List ℕ) → prefix_len no_dot s ≡ length s → cut (s ++ (46 ∷ r)) ≡ Some (s, r)
cut_dot s r e =
    let n = before_dot s r e in
    let long : length (s ++ (46 ∷ r)) ≡ length s + (1 + length r) = simp length-append (omega arith) in
    let front : take (prefix_len no_dot (s ++ (46 ∷ r))) (s ++ (46 ∷ r)) ≡ s = take_at s (46 ∷ r) _ (sym n) in
    let mark : length (s ++ (46 ∷ [])) ≡ prefix_len no_dot (s ++ (46 ∷ r)) + 1 = simp length-append (omega arith) in
    let back : drop (prefix_len no_dot (s ++ (46 ∷ r)) + 1) (s ++ (46 ∷ r)) ≡ r =
    ap (λ v. drop (prefix_len no_dot (s ++ (46 ∷ r)) + 1) v) (sym (append_assoc s (46 ∷ []) r)) ∙ drop_at (s ++ (46 ∷ [])) r _ mark in
    cond-true _ _ _ (lt-ltb (prefix_len no_dot (s ++ (46 ∷ r))) (length (s ++ (46 ∷ r))) (omega arith))
    ∙ ap (λ f. Some (f, drop (prefix_len no_dot (s ++ (46 ∷ r)) + 1) (s ++ (46 ∷ r)))) front
    ∙ ap (λ b. Some (s, b)) back

-- and what was cut, put together again
of_cut : (v s r : List ℕ) → cut v ≡ Some (s, r) → v ≡ s ++ (46 ∷ r)
of_cut v s r e =
    ⊎_elim
    (λ in'.
    let k = ltb-true (prefix_len no_dot v) (length v) in' in
    let same = taken_out _ _ (sym (cond-true _ _ _ in') ∙ e) in
    let front : take (prefix_len no_dot v) v ≡ s = ap (λ c. c.0) same in
    let back : drop (prefix_len no_dot v + 1) v ≡ r = ap (λ c. c.1) same in
    let dot : get_or v (prefix_len no_dot v) 0 ≡ 46 = eqb-true _ 46 (not-false _ (stops no_dot v k)) in
    sym (take-append-drop (prefix_len no_dot v) v)
    ∙ ap (λ x. take (prefix_len no_dot v) v ++ x) (drop_more v (prefix_len no_dot v) 0 k)
    ∙ ap (λ x. take (prefix_len no_dot v) v ++ (x ∷ drop (prefix_len no_dot v + 1) v)) dot
    ∙ ap (λ x. x ++ (46 ∷ drop (prefix_len no_dot v + 1) v)) front
    ∙ ap (λ x. s ++ (46 ∷ x)) back)
    (λ out. absurd (no_value _ (sym (cond-false _ _ _ out) ∙ e)))
    (cases_Bool (ltb (prefix_len no_dot v) (length v)))

-- no dot stands in a part
weaker : (p q : ℕ → Bool) (imp : (x : ℕ) → p x ≡ true → q x ≡ true) (t : List ℕ) → prefix_len p t ≡ length t → prefix_len q t ≡ length t
weaker p q imp [] e = refl
weaker p q imp (x ∷ xs) e =
    let first = first_passes p x xs e in
    cond-true (q x) (1 + prefix_len q xs) 0 (imp x first.0) ∙ ap (λ n. 1 + n) (weaker p q imp xs first.1) ∙ omega arith

digit_no_dot : (x : ℕ) → digit x ≡ true → no_dot x ≡ true
digit_no_dot x h = grind (arith, nat_tests)

part_no_dot : (o : Option ℕ) (t : List ℕ) → WritesPart o t → prefix_len no_dot t ≡ length t
part_no_dot None t w = subst (λ x. prefix_len no_dot x ≡ length x) (sym w) refl
part_no_dot (Some n) t w = weaker digit no_dot digit_no_dot t w.0.digits

-- a number as it is read
not_star : (t : List ℕ) (n : ℕ) → Writes t n → bytes_eq t (codes "*") ≡ false
not_star t n w =
    ⊎_elim
    (λ star.
    let e = (bytes_eq-Decides t (codes "*")).0 star in
    let z : prefix_len digit (codes "*") ≡ length (codes "*") = subst (λ x. prefix_len digit x ≡ length x) e w.digits in
    absurd (omega arith))
    (λ other. other)
    (cases_Bool (bytes_eq t (codes "*")))

number_part : (t : List ℕ) (n : ℕ) → Writes t n → length t ≤ 3 → n ≤ 255 → byte_of t ≡ Some n
number_part t n w few small = cond-false _ _ _ (le-ltb 3 (length t) few) ∙ ap byte_from (number_from t n w) ∙ cond-true _ _ _ (le-leb n 255 small)

of_byte : (o : Option ℕ) (m : ℕ) → byte_from o ≡ Some m → (o ≡ Some m) × (m ≤ 255)
of_byte None m e = absurd (no_value m e)
of_byte (Some n) m e =
    ⊎_elim
    (λ small.
    let same : n ≡ m = taken_out n m (sym (cond-true _ _ _ small) ∙ e) in
    let most = leb-true n 255 small in
    (ap Some same, omega arith))
    (λ large. absurd (no_value m (sym (cond-false _ _ _ large) ∙ e)))
    (cases_Bool (leb n 255))

of_number : (t : List ℕ) (m : ℕ) → byte_of t ≡ Some m → WritesPart (Some m) t
of_number t m e =
    ⊎_elim
    (λ long. absurd (no_value m (sym (cond-true _ _ _ long) ∙ e)))
    (λ short.
    let b = of_byte (number t) m (sym (cond-false _ _ _ short) ∙ e) in
    (writes_from t m b.0, ltb-false 3 (length t) short, b.1))
    (cases_Bool (ltb 3 (length t)))

-- the number at a part before the depth, and the star at one past it
pub part_in : (b : Block) (i : ℕ) → i < b.depth → i < length b.parts → part_at b i ≡ Some (get_or b.parts i 0)
part_in b i h k = cond-true _ _ _ (lt-ltb i b.depth h) ∙ slice_get-get_or b.parts i 0 k

pub part_out : (b : Block) (i : ℕ) → b.depth ≤ i → part_at b i ≡ None
part_out b i h = cond-false _ _ _ (le-ltb i b.depth h)

-- so only stars follow a star
pub last_stars : (b : Block) → length b.parts ≡ 4 → b.depth ≤ 4 → (i : ℕ) → part_at b i ≡ None → part_at b (i + 1) ≡ None
last_stars b four deep i e =
    ⊎_elim
    (λ in'. absurd (no_value _ (sym e ∙ part_in b i in' (omega (arith, four, deep)))))
    (λ out. part_out b (i + 1) (omega arith))
    (cases_lt i b.depth)

-- a block while it is read: its parts before a place are known
record Building (i : ℕ) (c : Block) : Type 0 where
  four : length c.parts ≡ 4
  deep : c.depth ≤ i
  blank : (k : ℕ) → c.depth ≤ k → get_or c.parts k 0 ≡ 0

-- a step keeps what was read and adds a part
record Adds (i : ℕ) (t : List ℕ) (c d : Block) : Type 0 where
  builds : Building (i + 1) d
  writes : WritesPart (part_at d i) t
  keeps : (k : ℕ) → k < i → part_at d k ≡ part_at c k

adds_star : (i : ℕ) (c : Block) → Building i c → Adds i (codes "*") c c
adds_star i c b = record {
  builds = record { four = b.four; deep = omega (arith, b.deep); blank = b.blank };
  writes = subst (λ o. WritesPart o (codes "*")) (sym (part_out c i b.deep)) refl;
  keeps = λ k l. refl;
}

adds_number : (i n : ℕ) (t : List ℕ) (c : Block) → i < 4 → Building i c → c.depth ≡ i → WritesPart (Some n) t → Adds i t c (record { depth = i + 1; parts = set c.parts i n })
adds_number i n t c h b e w =
    let d : Block = record { depth = i + 1; parts = set c.parts i n } in
    let long : length d.parts ≡ 4 = length-set c.parts i n ∙ b.four in
    let here : get_or d.parts i 0 ≡ n = get_or-set_same c.parts i n 0 (omega (arith, b.four)) in
    let there : (k : ℕ) → (k ≡ i → ⊥) → get_or d.parts k 0 ≡ get_or c.parts k 0 = λ k ne. get_or-set_other c.parts i k n 0 ne in
    record {
      builds = record {
        four = long;
        deep = omega arith;
        blank = λ k l. there k (λ s. omega arith) ∙ b.blank k (omega arith);
      };
      writes = subst (λ o. WritesPart o t) (sym (part_in d i (omega arith) (omega (arith, long)) ∙ ap Some here)) w;
      keeps = λ k l.
          part_in d k (omega arith) (omega (arith, long))
          ∙ ap Some (there k (λ s. omega arith))
          ∙ sym (part_in c k (omega arith) (omega (arith, b.four)));
    }

adds : (i : ℕ) (t : List ℕ) (c d : Block) → i < 4 → Building i c → with_text c i t ≡ Some d → Adds i t c d
adds i t c d h b e =
    ⊎_elim
    (λ star.
    let same : c ≡ d = taken_out c d (sym (cond-true _ _ _ star) ∙ e) in
    let is = (bytes_eq-Decides t (codes "*")).0 star in
    subst (λ x. Adds i t c x) same (subst (λ x. Adds i x c c) (sym is) (adds_star i c b)))
    (λ other.
    let o = of_onward (byte_of t) (with_number c i) d (sym (cond-false _ _ _ other) ∙ e) in
    ⊎_elim
    (λ next.
    let same = taken_out _ d (sym (cond-true _ _ _ next) ∙ o.2) in
    subst (λ x. Adds i t c x) same (adds_number i o.0 t c h b (eqb-true _ _ next) (of_number t o.0 o.1)))
    (λ late. absurd (no_value d (sym (cond-false _ _ _ late) ∙ o.2)))
    (cases_Bool (eqb c.depth i)))
    (cases_Bool (bytes_eq t (codes "*")))

-- one part and the rest
of_block : (n i : ℕ) (c d : Block) (v : List ℕ) → block_from (suc n) i c v ≡ Some d → (s : List ℕ) × (r : List ℕ) × (x : Block) × (v ≡ s ++ (46 ∷ r)) × (with_text c i s ≡ Some x) × (block_from n (i + 1) x r ≡ Some d)
of_block n i c d v e =
    let o = of_onward (cut v) _ d e in
    let p = of_onward (with_text c i o.0.0) _ d o.2 in
    (o.0.0, o.0.1, p.0, of_cut v o.0.0 o.0.1 o.1, p.1, p.2)

start : Building 0 everything
start = record { four = refl; deep = omega arith; blank = λ k _. zeros k }
  where
    zeros : (k : ℕ) → get_or everything.parts k 0 ≡ 0
    zeros zero = refl
    zeros (suc zero) = refl
    zeros (suc (suc zero)) = refl
    zeros (suc (suc (suc zero))) = refl
    zeros (suc (suc (suc (suc k)))) = refl

block_to : (v : List ℕ) (b : Block) → block_of v ≡ Some b → WritesBlock v b
block_to v b e =
    let p = of_block 2 0 everything b v e in
    let q = of_block 1 1 p.2 b p.1 p.5 in
    let r = of_block 0 2 q.2 b q.1 q.5 in
    let a0 = adds 0 p.0 everything p.2 (omega arith) start p.4 in
    let a1 = adds 1 q.0 p.2 q.2 (omega arith) a0.builds q.4 in
    let a2 = adds 2 r.0 q.2 r.2 (omega arith) a1.builds r.4 in
    let a3 = adds 3 r.1 r.2 b (omega arith) a2.builds r.5 in
    record {
      first = p.0;
      second = q.0;
      third = r.0;
      fourth = r.1;
      dotted = p.3 ∙ ap (λ x. p.0 ++ (46 ∷ x)) q.3 ∙ ap (λ x. p.0 ++ (46 ∷ (q.0 ++ (46 ∷ x)))) r.3;
      part_0 = subst (λ o. WritesPart o p.0) (sym (a3.keeps 0 (omega arith) ∙ a2.keeps 0 (omega arith) ∙ a1.keeps 0 (omega arith))) a0.writes;
      part_1 = subst (λ o. WritesPart o q.0) (sym (a3.keeps 1 (omega arith) ∙ a2.keeps 1 (omega arith))) a1.writes;
      part_2 = subst (λ o. WritesPart o r.0) (sym (a3.keeps 2 (omega arith))) a2.writes;
      part_3 = a3.writes;
      tidy = record {
        four = a3.builds.four;
        deep = a3.builds.deep;
        blank = a3.builds.blank;
        stars_last = last_stars b a3.builds.four a3.builds.deep;
      };
    }

-- a block up to a place of another
record Front (b : Block) (i : ℕ) (c : Block) : Type 0 where
  deep : c.depth ≡ min i b.depth
  four : length c.parts ≡ 4
  each : (k : ℕ) → get_or c.parts k 0 ≡ cond (ltb k c.depth) (get_or b.parts k 0) 0

grows : (b : Block) (i : ℕ) (t : List ℕ) (c : Block) → Tidy b → i < 4 → Front b i c → WritesPart (part_at b i) t → (d : Block) × (with_text c i t ≡ Some d) × (Front b (i + 1) d)
grows b i t c y h f w =
    ⊎_elim
    (λ in'.
    let n : ℕ = get_or b.parts i 0 in
    let num : WritesPart (Some n) t = subst (λ o. WritesPart o t) (part_in b i in' (omega (arith, y.four))) w in
    let d : Block = record { depth = i + 1; parts = set c.parts i n } in
    let at : c.depth ≡ i = f.deep ∙ omega arith in (
      d,
      cond-false _ _ _ (not_star t n num.0) ∙ ap (λ o. onward o (with_number c i)) (number_part t n num.0 num.1 num.2) ∙ cond-true _ _ _ (eq-eqb c.depth i at),
      record {
        deep = omega arith;
        four = length-set c.parts i n ∙ f.four;
        each = λ k.
            ⊎_elim
            (λ same. ap (λ x. get_or (set c.parts i n) x 0) same ∙ get_or-set_same c.parts i n 0 (omega (arith, f.four)) ∙ ap (λ x. get_or b.parts x 0) (sym same) ∙ sym (cond-true _ _ _ (lt-ltb k (i + 1) (omega arith))))
            (λ other. get_or-set_other c.parts i k n 0 other ∙ f.each k ∙ ap (λ x. cond x (get_or b.parts k 0) 0) (tests k other at))
            (cases_eq k i);
      },
    ))
    (λ out.
    let star : WritesPart None t = subst (λ o. WritesPart o t) (part_out b i out) w in (
      c,
      subst (λ x. with_text c i x ≡ Some c) (sym star) refl,
      record { deep = f.deep ∙ omega arith; four = f.four; each = f.each },
    ))
    (cases_lt i b.depth)
  where
    tests : (k : ℕ) → (k ≡ i → ⊥) → c.depth ≡ i → ltb k c.depth ≡ ltb k (i + 1)
    tests k ne e = grind (arith, nat_tests)

whole : (b c : Block) → Tidy b → Front b 4 c → c ≡ b
whole b c t f =
    let deep : c.depth ≡ b.depth = f.deep ∙ omega (arith, t.deep) in
    let parts : c.parts ≡ b.parts = same_lists c.parts b.parts (f.four ∙ sym t.four)
    (λ k d h. get_or_default c.parts k d 0 h ∙ f.each k
    ∙ ⊎_elim (λ in'. cond-true _ _ _ (lt-ltb k c.depth in')) (λ out. cond-false _ _ _ (le-ltb k c.depth out) ∙ sym (t.blank k (omega arith))) (cases_lt k c.depth)
    ∙ get_or_default b.parts k 0 d (omega (arith, f.four, t.four))) in
    ap (λ n. record { depth = n; parts = c.parts }) deep ∙ ap (λ p. record { depth = b.depth; parts = p }) parts

goes_on : (n i : ℕ) (c d : Block) (s r : List ℕ) → prefix_len no_dot s ≡ length s → with_text c i s ≡ Some d → block_from (suc n) i c (s ++ (46 ∷ r)) ≡ block_from n (i + 1) d r
goes_on n i c d s r e f =
    ap (λ o. onward o (λ x. onward (with_text c i x.0) (λ y. block_from n (i + 1) y x.1))) (cut_dot s r e) ∙ ap (λ o. onward o (λ y. block_from n (i + 1) y r)) f

begins : (b : Block) → Front b 0 everything
begins b = record { deep = omega arith; four = refl; each = λ k. start.blank k (omega arith) ∙ sym (cond-false _ _ _ (le-ltb k 0 (omega arith))) }

block_back : (v : List ℕ) (b : Block) → WritesBlock v b → block_of v ≡ Some b
block_back v b w =
    let g0 = grows b 0 w.first everything w.tidy (omega arith) (begins b) w.part_0 in
    let g1 = grows b 1 w.second g0.0 w.tidy (omega arith) g0.2 w.part_1 in
    let g2 = grows b 2 w.third g1.0 w.tidy (omega arith) g1.2 w.part_2 in
    let g3 = grows b 3 w.fourth g2.0 w.tidy (omega arith) g2.2 w.part_3 in
    ap block_of w.dotted
    ∙ goes_on 2 0 everything g0.0 w.first _ (part_no_dot _ _ w.part_0) g0.1
    ∙ goes_on 1 1 g0.0 g1.0 w.second _ (part_no_dot _ _ w.part_1) g1.1
    ∙ goes_on 0 2 g1.0 g2.0 w.third _ (part_no_dot _ _ w.part_2) g2.1
    ∙ g3.1
    ∙ ap Some (whole b g3.0 w.tidy g3.2)

pub blocks_read : (v : List ℕ) (b : Block) → Exactly (block_of v ≡ Some b) (WritesBlock v b)
blocks_read v b = (block_to v b, block_back v b)
