-- A word is read where it is written, and only there.
use Rattle.std.proofs.Common.{◌≡◌, ℕ, ◌+◌, ◌<◌, ◌≤◌, Bool, true, false, cond, eqb, ◌⊎◌, List, [], ◌∷◌, ◌++◌, length, get_or, take, drop, Some, None, Ok, Err, Option, Result, sym, refl, ap, ◌∙◌, subst, inl, inr, true≢false, zero-add, one-add, arith}
use mathlib.Core.Bool.{false≢true}
use Rattle.std.specs.List.{prefix_len}
use Rattle.std.proofs.lemmas.List.{take-append-drop, length-take-le, drop_at}
use Rattle.std.proofs.lemmas.List.Sums.{prefix_len-le-length}
use Rattle.std.proofs.lemmas.Bool.{both_ways, eqb-true, eqb-false, ne_eqb, or_cases, cond_both}
use Rattle.fixed.specs.Spelling.{name_byte}
use Rattle.site.specs.declared.refusals.Cause.{Cause}
use Rattle.site.specs.declared.refusals.Cause.TheVariants.{TextEnds, Unexpected}
use Rattle.site.specs.declared.refusals.Refusal.{Refusal}
use Rattle.words.specs.declared.words.Found.{Found as Read}
use Rattle.words.specs.declared.signs.Sign.{Sign}
use Rattle.words.specs.declared.signs.Sign.TheVariants.{Open, Close, Less, Greater, Comma, Semicolon, Same, Equals, Differs, AtLeast, AtMost, Star, Becomes}
use Rattle.words.specs.Words.{blank, value_byte, sign_of, signed, due_of, due_at}
use Rattle.words.specs.Writing.{Token, name, value, sign, Each, none, also, sign_bytes, spelling, Sound, valued, Longest, kind}
use Rattle.words.proofs.Steps as steps

-- runs of bytes

pub leads : (p : ℕ → Bool) (rest : List ℕ) {b : List ℕ} → Each p b → prefix_len p (b ++ rest) ≡ length b + prefix_len p rest
leads p rest none = sym (zero-add _)
leads p rest (also {c = c} {cs = cs} h t) = let e : prefix_len p (cs ++ rest) ≡ length cs + prefix_len p rest = leads p rest t in rw h (omega arith)

pub fronts : (p : ℕ → Bool) (xs : List ℕ) → Each p (take (prefix_len p xs) xs)
fronts p [] = none
fronts p (x ∷ xs) = cond_both (p x) _ _ (λ k. Each p (take k (x ∷ xs))) (λ e. rw one-add (also e (fronts p xs))) (λ e. none)

heads : (p : ℕ → Bool) {c : ℕ} {cs : List ℕ} → Each p (c ∷ cs) → p c ≡ true
heads p (also h t) = h

-- no name begins with a blank, and no sign with a blank or a name byte

solid : (p : ℕ → Bool) → p 32 ≡ false → p 9 ≡ false → p 13 ≡ false → p 10 ≡ false → (c : ℕ) → p c ≡ true → blank c ≡ false
solid p s t r n c h = go (blank c) refl
  where
    not_at : (k : ℕ) → p k ≡ false → eqb c k ≡ true → ⊥
    not_at k f e = true≢false (sym h ∙ ap p (eqb-true c k e) ∙ f)

    go : (t : Bool) → blank c ≡ t → t ≡ false
    go false e = refl
    go true e = elim (or_cases _ _ e) [ inl a ↦ absurd (not_at 32 s a) | inr f ↦ elim (or_cases _ _ f) [ inl a ↦ absurd (not_at 9 t a) | inr g ↦ elim (or_cases _ _ g) [ inl a ↦ absurd (not_at 13 r a) | inr a ↦ absurd (not_at 10 n a) ] ] ]

pub no_blank : (s : Sign) (more : List ℕ) → prefix_len blank (sign_bytes s ++ more) ≡ 0
no_blank Open more = refl
no_blank Close more = refl
no_blank Less more = refl
no_blank Greater more = refl
no_blank Comma more = refl
no_blank Semicolon more = refl
no_blank Same more = refl
no_blank Equals more = refl
no_blank Differs more = refl
no_blank AtLeast more = refl
no_blank AtMost more = refl
no_blank Star more = refl
no_blank Becomes more = refl

pub no_name : (s : Sign) (more : List ℕ) → name_byte (get_or (sign_bytes s ++ more) 0 0) ≡ false
no_name Open more = refl
no_name Close more = refl
no_name Less more = refl
no_name Greater more = refl
no_name Comma more = refl
no_name Semicolon more = refl
no_name Same more = refl
no_name Equals more = refl
no_name Differs more = refl
no_name AtLeast more = refl
no_name AtMost more = refl
no_name Star more = refl
no_name Becomes more = refl

some : (s : Sign) (more : List ℕ) → eqb (length (sign_bytes s ++ more)) 0 ≡ false
some s more = ne_eqb _ 0 (λ e. go s e)
  where
    go : (g : Sign) → length (sign_bytes g ++ more) ≡ 0 → ⊥
    go Open e = omega arith
    go Close e = omega arith
    go Less e = omega arith
    go Greater e = omega arith
    go Comma e = omega arith
    go Semicolon e = omega arith
    go Same e = omega arith
    go Equals e = omega arith
    go Differs e = omega arith
    go AtLeast e = omega arith
    go AtMost e = omega arith
    go Star e = omega arith
    go Becomes e = omega arith

begins : (t : Token) (more : List ℕ) → Sound t → prefix_len blank (spelling t ++ more) ≡ 0
begins (name []) more so = absurd (omega arith)
begins (name (c ∷ cs)) more so = rw (solid name_byte refl refl refl refl c (heads name_byte so.1))
begins (value []) more so = absurd (omega arith)
begins (value (c ∷ cs)) more so = rw (solid value_byte refl refl refl refl c (heads value_byte so.1))
begins (sign s) more so = no_blank s more

-- a word that is written is read

next : (more : List ℕ) → ((rest : List ℕ) → more ≡ 61 ∷ rest → ⊥) → eqb (get_or more 0 0) 61 ≡ false
next [] h = refl
next (x ∷ xs) h = ne_eqb x 61 (λ e. h xs (ap (λ y. y ∷ xs) e))

sign_here : (s : Sign) (more : List ℕ) → Longest (sign s) more → sign_of (get_or (sign_bytes s ++ more) 0 0) (get_or (sign_bytes s ++ more) 1 0) ≡ Some (s, length (sign_bytes s))
sign_here Open more l = refl
sign_here Close more l = refl
sign_here Less more l = rw (next more (λ rest e. let two : 2 ≤ 1 = l (sign AtMost) rest refl tt (ap (λ m. 60 ∷ m) e) in omega arith))
sign_here Greater more l = rw (next more (λ rest e. let two : 2 ≤ 1 = l (sign AtLeast) rest refl tt (ap (λ m. 62 ∷ m) e) in omega arith))
sign_here Comma more l = refl
sign_here Semicolon more l = refl
sign_here Same more l = refl
sign_here Equals more l = rw (next more (λ rest e. let two : 2 ≤ 1 = l (sign Same) rest refl tt (ap (λ m. 61 ∷ m) e) in omega arith))
sign_here Differs more l = refl
sign_here AtLeast more l = refl
sign_here AtMost more l = refl
sign_here Star more l = refl
sign_here Becomes more l = refl

name_here : (n more : List ℕ) → Sound (name n) → Longest (name n) more → prefix_len name_byte (n ++ more) ≡ length n
name_here n more so l =
    let k = prefix_len name_byte (n ++ more) in
    let le = prefix_len-le-length name_byte (n ++ more) in
    let long : length n + prefix_len name_byte more ≡ k = sym (leads name_byte more so.1) in
    let len = length-take-le k (n ++ more) le in
    let no : length (take k (n ++ more)) ≤ length n = l (name (take k (n ++ more))) (drop k (n ++ more)) refl (omega (arith, so.0), fronts name_byte (n ++ more)) (sym (take-append-drop k (n ++ more))) in
    omega arith

value_here : (v more : List ℕ) → Sound (value v) → Longest (value v) more → prefix_len value_byte (v ++ more) ≡ length v
value_here v more so l =
    let k = prefix_len value_byte (v ++ more) in
    let le = prefix_len-le-length value_byte (v ++ more) in
    let long : length v + prefix_len value_byte more ≡ k = sym (leads value_byte more so.1) in
    let len = length-take-le k (v ++ more) le in
    let no : length (take k (v ++ more)) ≤ length v = l (value (take k (v ++ more))) (drop k (v ++ more)) refl (omega (arith, so.0), fronts value_byte (v ++ more)) (sym (take-append-drop k (v ++ more))) in
    omega arith

abbrev pub read_at : ℕ → Token → Result Read Refusal
read_at n t = Ok (record { word = kind t; from = n; to = n + length (spelling t) })

here : (n : ℕ) (t : Token) (more : List ℕ) → Sound t → Longest t more → due_of (valued t) n (spelling t ++ more) ≡ read_at n t
here n (name []) more so l = absurd (omega arith)
here n (name (c ∷ cs)) more so l =
    let a : eqb (length ((c ∷ cs) ++ more)) 0 ≡ false = ne_eqb _ 0 (λ e. omega arith) in
    let m : prefix_len name_byte ((c ∷ cs) ++ more) ≡ length (c ∷ cs) = name_here (c ∷ cs) more so l in
    steps.named n ((c ∷ cs) ++ more) a (length (c ∷ cs)) (sym m) (heads name_byte so.1)
here n (value []) more so l = absurd (omega arith)
here n (value (c ∷ cs)) more so l =
    let a : eqb (length ((c ∷ cs) ++ more)) 0 ≡ false = ne_eqb _ 0 (λ e. omega arith) in
    let m : prefix_len value_byte ((c ∷ cs) ++ more) ≡ length (c ∷ cs) = value_here (c ∷ cs) more so l in
    steps.valued n ((c ∷ cs) ++ more) a (length (c ∷ cs)) (sym m) (ne_eqb (length (c ∷ cs)) 0 (λ e. omega arith))
here n (sign s) more so l = steps.at_sign n (sign_bytes s ++ more) (some s more) _ (sym (sign_here s more l)) (no_name s more)

pub split_due : (b : Bool) (bs : List ℕ) → due_at b bs ≡ due_of b (prefix_len blank bs) (drop (prefix_len blank bs) bs)
split_due true bs = refl
split_due false bs = refl

pub is_read : (b : List ℕ) (t : Token) (more : List ℕ) → Each blank b → Sound t → Longest t more → due_at (valued t) (b ++ (spelling t ++ more)) ≡ read_at (length b) t
is_read b t more bl so l =
    let n : prefix_len blank (b ++ (spelling t ++ more)) ≡ length b = leads blank (spelling t ++ more) bl ∙ ap (λ k. length b + k) (begins t more so) ∙ omega arith in
    split_due (valued t) (b ++ (spelling t ++ more))
    ∙ ap (λ k. due_of (valued t) k (drop k (b ++ (spelling t ++ more)))) n ∙ ap (due_of (valued t) (length b)) (drop_at b (spelling t ++ more) (length b) refl) ∙ here (length b) t more so l

-- a word that is read is written

pub record Found (b : Bool) (bs : List ℕ) : Type 0 where
  pub token : Token
  pub more : List ℕ
  pub parts : bs ≡ spelling token ++ more
  pub sound : Sound token
  pub longest : Longest token more
  pub as_due : valued token ≡ b

abbrev Says : Bool → ℕ → List ℕ → Result Read Refusal → Type 0
Says b n bs (Ok r) = Found b bs
Says b n bs (Err e) = Unit {0}

first : (p : ℕ → Bool) {n : List ℕ} (rest bs : List ℕ) → Each p n → 0 < length n → bs ≡ n ++ rest → p (get_or bs 0 0) ≡ true
first p rest bs none h e = absurd (omega arith)
first p rest bs (also g t) h e = ap (λ l. p (get_or l 0 0)) e ∙ g

longest_name : (bs : List ℕ) → name_byte (get_or bs 0 0) ≡ true → Longest (name (take (prefix_len name_byte bs) bs)) (drop (prefix_len name_byte bs) bs)
longest_name bs f (name n) rest k so e =
    let same : bs ≡ n ++ rest = sym (take-append-drop (prefix_len name_byte bs) bs) ∙ e in
    omega (arith, leads name_byte rest so.1, ap (prefix_len name_byte) same, length-take-le (prefix_len name_byte bs) bs (prefix_len-le-length name_byte bs))
longest_name bs f (value n) rest k so e = absurd (true≢false k)
longest_name bs f (sign s) rest k so e =
    let same : bs ≡ sign_bytes s ++ rest = sym (take-append-drop (prefix_len name_byte bs) bs) ∙ e in
    absurd (true≢false (sym f ∙ ap (λ l. name_byte (get_or l 0 0)) same ∙ no_name s rest))

longest_value : (bs : List ℕ) → Longest (value (take (prefix_len value_byte bs) bs)) (drop (prefix_len value_byte bs) bs)
longest_value bs (name n) rest k so e = absurd (false≢true k)
longest_value bs (value n) rest k so e =
    let same : bs ≡ n ++ rest = sym (take-append-drop (prefix_len value_byte bs) bs) ∙ e in
    omega (arith, leads value_byte rest so.1, ap (prefix_len value_byte) same, length-take-le (prefix_len value_byte bs) bs (prefix_len-le-length value_byte bs))
longest_value bs (sign s) rest k so e = absurd (false≢true k)

found_name : (bs : List ℕ) → eqb (length bs) 0 ≡ false → name_byte (get_or bs 0 0) ≡ true → Found false bs
found_name bs a f =
    let len = length-take-le (prefix_len name_byte bs) bs (prefix_len-le-length name_byte bs) in
    record {
      token = name (take (prefix_len name_byte bs) bs);
      more = drop (prefix_len name_byte bs) bs;
      parts = sym (take-append-drop (prefix_len name_byte bs) bs);
      sound = (omega (arith, steps.some_leads name_byte bs a f), fronts name_byte bs);
      longest = longest_name bs f;
      as_due = refl;
    }

found_value : (bs : List ℕ) → eqb (prefix_len value_byte bs) 0 ≡ false → Found true bs
found_value bs f =
    let len = length-take-le (prefix_len value_byte bs) bs (prefix_len-le-length value_byte bs) in
    record {
      token = value (take (prefix_len value_byte bs) bs);
      more = drop (prefix_len value_byte bs) bs;
      parts = sym (take-append-drop (prefix_len value_byte bs) bs);
      sound = (omega (arith, eqb-false (prefix_len value_byte bs) 0 f), fronts value_byte bs);
      longest = longest_value bs;
      as_due = refl;
    }

-- the sign that is read stands there
abbrev Agreed : List ℕ → Option (Sign × ℕ) → Type 0
Agreed bs (Some p) = (p.1 ≡ length (sign_bytes p.0)) × ((rest : List ℕ) × (bs ≡ sign_bytes p.0 ++ rest)) × (0 < p.1)
Agreed bs None = Unit {0}

second : (more : List ℕ) → eqb (get_or more 0 0) 61 ≡ true → (rest : List ℕ) × (more ≡ 61 ∷ rest)
second [] e = absurd (false≢true e)
second (y ∷ ys) e = (ys, ap (λ b. b ∷ ys) (eqb-true y 61 e))

module _ (a : ℕ) (more : List ℕ) where
  one : (s : Sign) (k : ℕ) → sign_bytes s ≡ k ∷ [] → eqb a k ≡ true → Agreed (a ∷ more) (Some (s, 1))
  one s k sp e = (sym (ap length sp), (more, ap (λ b. b ∷ more) (eqb-true a k e) ∙ ap (λ l. l ++ more) (sym sp)), omega arith)

  two : (s : Sign) (k : ℕ) → sign_bytes s ≡ k ∷ 61 ∷ [] → eqb a k ≡ true → eqb (get_or more 0 0) 61 ≡ true → Agreed (a ∷ more) (Some (s, 2))
  two s k sp e f =
      let w = second more f in
      (sym (ap length sp), (w.0, ap (λ b. b ∷ more) (eqb-true a k e) ∙ ap (λ l. k ∷ l) w.1 ∙ ap (λ l. l ++ w.0) (sym sp)), omega arith)

  one_or_two : (s s' : Sign) (k : ℕ) → sign_bytes s ≡ k ∷ 61 ∷ [] → sign_bytes s' ≡ k ∷ [] → eqb a k ≡ true → Agreed (a ∷ more) (cond (eqb (get_or more 0 0) 61) (Some (s, 2)) (Some (s', 1)))
  one_or_two s s' k sp sp' e = cond_both (eqb (get_or more 0 0) 61) _ _ (Agreed (a ∷ more)) (λ f. two s k sp e f) (λ f. one s' k sp' e)

  two_or_none : (s : Sign) (k : ℕ) → sign_bytes s ≡ k ∷ 61 ∷ [] → eqb a k ≡ true → Agreed (a ∷ more) (cond (eqb (get_or more 0 0) 61) (Some (s, 2)) None)
  two_or_none s k sp e = cond_both (eqb (get_or more 0 0) 61) _ _ (Agreed (a ∷ more)) (λ f. two s k sp e f) (λ f. tt)

  pub agrees : Agreed (a ∷ more) (sign_of a (get_or more 0 0))
  agrees =
      try 123 _ _ (one Open 123 refl)
      (try 125 _ _ (one Close 125 refl)
      (try 60 _ _ (one_or_two AtMost Less 60 refl refl)
      (try 62 _ _ (one_or_two AtLeast Greater 62 refl refl)
      (try 44 _ _ (one Comma 44 refl)
      (try 59 _ _ (one Semicolon 59 refl)
      (try 61 _ _ (one_or_two Same Equals 61 refl refl)
      (try 33 _ _ (two_or_none Differs 33 refl)
      (try 42 _ _ (one Star 42 refl)
      (try 58 _ _ (two_or_none Becomes 58 refl) tt)))))))))
    where
      try : (k : ℕ) (x y : Option (Sign × ℕ)) → (eqb a k ≡ true → Agreed (a ∷ more) x) → Agreed (a ∷ more) y → Agreed (a ∷ more) (cond (eqb a k) x y)
      try k x y f g = cond_both (eqb a k) x y (Agreed (a ∷ more)) f (λ e. g)

-- no longer sign stands there
sign_long : (s : Sign) (rest : List ℕ) (o : Sign × ℕ) → 0 < o.1 → sign_of (get_or (sign_bytes s ++ rest) 0 0) (get_or (sign_bytes s ++ rest) 1 0) ≡ Some o → length (sign_bytes s) ≤ o.1
sign_long Open rest o p e = omega arith
sign_long Close rest o p e = omega arith
sign_long Less rest o p e = omega arith
sign_long Greater rest o p e = omega arith
sign_long Comma rest o p e = omega arith
sign_long Semicolon rest o p e = omega arith
sign_long Same rest o p e = let f : (Same, 2) ≡ o = cc in omega (arith, ap (λ (q : Sign × ℕ). q.1) f)
sign_long Equals rest o p e = omega arith
sign_long Differs rest o p e = let f : (Differs, 2) ≡ o = cc in omega (arith, ap (λ (q : Sign × ℕ). q.1) f)
sign_long AtLeast rest o p e = let f : (AtLeast, 2) ≡ o = cc in omega (arith, ap (λ (q : Sign × ℕ). q.1) f)
sign_long AtMost rest o p e = let f : (AtMost, 2) ≡ o = cc in omega (arith, ap (λ (q : Sign × ℕ). q.1) f)
sign_long Star rest o p e = omega arith
sign_long Becomes rest o p e = let f : (Becomes, 2) ≡ o = cc in omega (arith, ap (λ (q : Sign × ℕ). q.1) f)

module _ (n : ℕ) (bs : List ℕ) (f : name_byte (get_or bs 0 0) ≡ false) where
  found_sign : (o : Option (Sign × ℕ)) → sign_of (get_or bs 0 0) (get_or bs 1 0) ≡ o → Agreed bs o → Says false n bs (signed n o)
  found_sign None e h = tt
  found_sign (Some o) e h =
      let s = o.0 in
      let rest = h.1.0 in
      let parts : bs ≡ sign_bytes s ++ rest = h.1.1 in
      record {
        token = sign s;
        more = rest;
        parts = parts;
        sound = tt;
        longest = λ t more k so g. longer t more k so (parts ∙ g);
        as_due = refl;
      }
    where
      longer : (t : Token) (more : List ℕ) → valued t ≡ false → Sound t → bs ≡ spelling t ++ more → length (spelling t) ≤ length (sign_bytes o.0)
      longer (name m) more k so g = absurd (both_ways _ f (first name_byte more bs so.1 so.0 g))
      longer (value m) more k so g = absurd (true≢false k)
      longer (sign t) more k so g = let le = sign_long t more o h.2 (sym (ap (λ l. sign_of (get_or l 0 0) (get_or l 1 0)) g) ∙ e) in omega (arith, h.0)

agreed : (bs : List ℕ) → eqb (length bs) 0 ≡ false → Agreed bs (sign_of (get_or bs 0 0) (get_or bs 1 0))
agreed [] a = absurd (true≢false a)
agreed (x ∷ xs) a = agrees x xs

says : (b : Bool) (n : ℕ) (bs : List ℕ) → Says b n bs (due_of b n bs)
says false n bs = cond_both (eqb (length bs) 0) _ _ (Says false n bs) (λ a. tt)
    (λ a. cond_both (name_byte (get_or bs 0 0)) _ _ (Says false n bs)
    (λ f. found_name bs a f)
    (λ f. found_sign n bs f (sign_of (get_or bs 0 0) (get_or bs 1 0)) refl (agreed bs a)))
says true n bs = cond_both (eqb (length bs) 0) _ _ (Says true n bs) (λ a. tt)
    (λ a. cond_both (eqb (prefix_len value_byte bs) 0) _ _ (Says true n bs) (λ f. tt) (λ f. found_value bs f))

-- the word at the front of bs, past its blanks
pub was_written : (b : Bool) (bs : List ℕ) (r : Read) → due_at b bs ≡ Ok r → Found b (drop (prefix_len blank bs) bs)
was_written b bs r e = subst (Says b (prefix_len blank bs) (drop (prefix_len blank bs) bs)) (sym (split_due b bs) ∙ e) (says b (prefix_len blank bs) (drop (prefix_len blank bs) bs))

-- why no word is read

abbrev pub stop : Cause → ℕ → Refusal
stop c p = record { cause = c; place = p }

abbrev pub Why : ℕ → List ℕ → Result Read Refusal → Type 0
Why n bs (Ok r) = Unit {0}
Why n bs (Err e) = ((e ≡ stop TextEnds n) × (length bs ≡ 0)) ⊎ ((e ≡ stop Unexpected n) × (0 < length bs))

why_no_sign : (n : ℕ) (bs : List ℕ) → 0 < length bs → (o : Option (Sign × ℕ)) → Why n bs (signed n o)
why_no_sign n bs h (Some o) = tt
why_no_sign n bs h None = inr (refl, h)

some_left : (bs : List ℕ) → eqb (length bs) 0 ≡ false → 0 < length bs
some_left bs e = let ne = eqb-false (length bs) 0 e in omega arith

pub why : (b : Bool) (n : ℕ) (bs : List ℕ) → Why n bs (due_of b n bs)
why false n bs = cond_both (eqb (length bs) 0) _ _ (Why n bs) (λ a. inl (refl, eqb-true _ _ a))
    (λ a. cond_both (name_byte (get_or bs 0 0)) _ _ (Why n bs) (λ f. tt) (λ f. why_no_sign n bs (some_left bs a) (sign_of (get_or bs 0 0) (get_or bs 1 0))))
why true n bs = cond_both (eqb (length bs) 0) _ _ (Why n bs) (λ a. inl (refl, eqb-true _ _ a))
    (λ a. cond_both (eqb (prefix_len value_byte bs) 0) _ _ (Why n bs) (λ f. inr (refl, some_left bs a)) (λ f. tt))

-- a word takes a byte at least
sign_takes : (s : Sign) → 0 < length (sign_bytes s)
sign_takes Open = omega arith
sign_takes Close = omega arith
sign_takes Less = omega arith
sign_takes Greater = omega arith
sign_takes Comma = omega arith
sign_takes Semicolon = omega arith
sign_takes Same = omega arith
sign_takes Equals = omega arith
sign_takes Differs = omega arith
sign_takes AtLeast = omega arith
sign_takes AtMost = omega arith
sign_takes Star = omega arith
sign_takes Becomes = omega arith

pub takes : (t : Token) → Sound t → 0 < length (spelling t)
takes (name n) so = so.0
takes (value v) so = so.0
takes (sign s) so = sign_takes s
