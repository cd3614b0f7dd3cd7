-- Two lists that name all pairs of the same rules are one by one the same, but for the points.
use Rattle.std.proofs.Common.{◌≡◌, ℕ, List, [], ◌∷◌, ◌++◌, take, drop, sym, refl, ap, ◌∙◌, subst, inl, inr, ⊎_elim, arith, take-append-drop}
use Rattle.std.specs.List.{slice_get}
use Rattle.std.proofs.lemmas.Bool.{cases_order}
use Rattle.kind.specs.Sense.{Sense, Laws, OneGiven}
use Rattle.site.specs.Plans.{Plan}
use Rattle.paths.specs.declared.ports.Port.{Port}
use Rattle.paths.specs.PortSets.{NotAfter}
use Rattle.rules.specs.Rules.{Ruling}
use Rattle.pairs.specs.declared.answers.Entry.{Entry}
use Rattle.pairs.specs.Disagreement.{LowestClass, Tells}
use Rattle.pairs.specs.Lists.{Has, here, there}
use Rattle.pairs.specs.Pairs.{Earlier, InOrder, Alike, pointed, SpeaksOf, NamesAll, Reports}
use Rattle.pairs.proofs.Having.{has_cases, has_none, has_one, nth_one}
use Rattle.pairs.proofs.Naming.{lex_not, lex_trans, lex_upto, told}

-- entries of the same two positions
abbrev SamePair : {P : Type 0} → Entry P → Entry P → Type 0
SamePair e f = (e.first ≡ f.first) × (e.second ≡ f.second)

-- each of the one list has its pair in the other
abbrev Covers : {P : Type 0} → List (Entry P) → List (Entry P) → Type 0
Covers {P} es fs = (e : Entry P) → Has es e → (f : Entry P) × Has fs f × SamePair e f

turned : {P : Type 0} (e f : Entry P) → SamePair e f → SamePair f e
turned e f (a, b) = (sym a, sym b)

earlier_as : {P : Type 0} (e f g : Entry P) → Earlier e f → SamePair f g → Earlier e g
earlier_as e f g l (a, b) = lex_upto e.first e.second f.first f.second g.first g.second l (sym a) (sym b)

not_both : {P : Type 0} (e f : Entry P) → Earlier e f → Earlier f e → ⊥
not_both e f l m = lex_not e.first e.second e.first e.second (lex_trans e.first e.second f.first f.second e.first e.second l m) refl refl

-- the fronts of two such lists are of one pair
fronts : {P : Type 0} (e f : Entry P) (es fs : List (Entry P)) → InOrder (e ∷ es) → InOrder (f ∷ fs) → Covers (e ∷ es) (f ∷ fs) → Covers (f ∷ fs) (e ∷ es) → SamePair e f
fronts e f es fs o p on back =
    let g = on e here in
    let h = back f here in
    ⊎_elim
    (λ x. subst (λ z. SamePair e z) (sym (has_one x)) g.2)
    (λ x. ⊎_elim
    (λ y. turned f e (subst (λ z. SamePair f z) (sym (has_one y)) h.2))
    (λ y. absurd (not_both f e (earlier_as f g.0 e (p.0 g.0 x) (turned e g.0 g.2)) (earlier_as e h.0 f (o.0 h.0 y) (turned f h.0 h.2))))
    (has_cases (e ∷ []) es h.0 h.1))
    (has_cases (f ∷ []) fs g.0 g.1)

-- and what follows covers what follows
rests : {P : Type 0} (e f : Entry P) (es fs : List (Entry P)) → InOrder (e ∷ es) → SamePair e f → Covers (e ∷ es) (f ∷ fs) → Covers es fs
rests e f es fs o same on x h =
    let g = on x (there h) in
    ⊎_elim
    (λ y. absurd (again (has_one y) g.2))
    (λ y. (g.0, y, g.2))
    (has_cases (f ∷ []) fs g.0 g.1)
  where
    again : {z : Entry _} → f ≡ z → SamePair x z → ⊥
    again q m = lex_not e.first e.second x.first x.second (o.0 x h) (same.0 ∙ ap (λ (w : Entry _). w.first) q ∙ sym m.0) (same.1 ∙ ap (λ (w : Entry _). w.second) q ∙ sym m.1)

alike : {P : Type 0} (es fs : List (Entry P)) → InOrder es → InOrder fs → Covers es fs → Covers fs es → ((e f : Entry P) → Has es e → Has fs f → SamePair e f → pointed e f.point ≡ f) → Alike es fs
alike [] [] o p on back agree = tt
alike [] (f ∷ fs) o p on back agree = has_none (back f here).1
alike (e ∷ es) [] o p on back agree = has_none (on e here).1
alike (e ∷ es) (f ∷ fs) o p on back agree =
    let same = fronts e f es fs o p on back in
    (agree e f here here same, alike es fs o.1 p.1 (rests e f es fs o same on) (rests f e fs es p (turned e f same) back) (λ x y h g m. agree x y (there h) (there g) m))

pub alike_same : {P : Type 0} (es : List (Entry P)) → Alike es es
alike_same [] = tt
alike_same (e ∷ es) = (refl, alike_same es)

alike_more : {P : Type 0} (es fs gs : List (Entry P)) → Alike es fs → Alike (es ++ gs) (fs ++ gs)
alike_more [] [] gs a = alike_same gs
alike_more [] (f ∷ fs) gs a = absurd a
alike_more (e ∷ es) [] gs a = absurd a
alike_more (e ∷ es) (f ∷ fs) gs a = (a.0, alike_more es fs gs a.1)

-- with the points the same too, the lists are the same
pub exact : {P : Type 0} (es fs : List (Entry P)) → Alike es fs → ((e f : Entry P) → Has es e → Has fs f → pointed e f.point ≡ f → e.point ≡ f.point) → es ≡ fs
exact [] [] a same = refl
exact [] (f ∷ fs) a same = absurd a
exact (e ∷ es) [] a same = absurd a
exact (e ∷ es) (f ∷ fs) a same =
    ap (λ z. z ∷ es) (ap (λ p. pointed e p) (same e f here here a.0) ∙ a.0) ∙ ap (λ z. f ∷ z) (exact es fs a.1 (λ x y h g m. same x y (there h) (there g) m))

same_port : (p q : Port) → NotAfter p q → NotAfter q p → p ≡ q
same_port p q a b = ap (λ z. record { link = z; node = p.node }) (links a b) ∙ ap (λ z. record { link = q.link; node = z }) (nodes a b)
  where
    links : NotAfter p q → NotAfter q p → p.link ≡ q.link
    links (inl l) (inl m) = absurd (omega arith)
    links (inl l) (inr m) = sym m.0
    links (inr l) m = l.0

    nodes : NotAfter p q → NotAfter q p → p.node ≡ q.node
    nodes (inl l) (inl m) = absurd (omega arith)
    nodes (inl l) (inr m) = absurd (omega (arith, m.0))
    nodes (inr l) (inl m) = absurd (omega (arith, l.0))
    nodes (inr l) (inr m) = omega (arith, l.1, m.1)

same_entry : {P : Type 0} (e f : Entry P) → e.first ≡ f.first → e.second ≡ f.second → e.first_place ≡ f.first_place → e.second_place ≡ f.second_place → e.port ≡ f.port → e.class ≡ f.class → e.mark ≡ f.mark → pointed e f.point ≡ f
same_entry e f a b c d p n m =
    ap (λ z. record { first = z; second = e.second; first_place = e.first_place; second_place = e.second_place; port = e.port; class = e.class; point = f.point; mark = e.mark }) a
    ∙ ap (λ z. record { first = f.first; second = z; first_place = e.first_place; second_place = e.second_place; port = e.port; class = e.class; point = f.point; mark = e.mark }) b
    ∙ ap (λ z. record { first = f.first; second = f.second; first_place = z; second_place = e.second_place; port = e.port; class = e.class; point = f.point; mark = e.mark }) c
    ∙ ap (λ z. record { first = f.first; second = f.second; first_place = f.first_place; second_place = z; port = e.port; class = e.class; point = f.point; mark = e.mark }) d
    ∙ ap (λ z. record { first = f.first; second = f.second; first_place = f.first_place; second_place = f.second_place; port = z; class = e.class; point = f.point; mark = e.mark }) p
    ∙ ap (λ z. record { first = f.first; second = f.second; first_place = f.first_place; second_place = f.second_place; port = f.port; class = z; point = f.point; mark = e.mark }) n
    ∙ ap (λ z. record { first = f.first; second = f.second; first_place = f.first_place; second_place = f.second_place; port = f.port; class = f.class; point = f.point; mark = z }) m

module _ {C P : Type 0} (s : Plan) (k : Sense C P) where
  same_class : (q r : Ruling C) (m n : ℕ) → LowestClass s q r m → LowestClass s q r n → m ≡ n
  same_class q r m n (a, b) (c, d) = elim (cases_order m n) [
    | inl e ↦ e
    | inr (inl l) ↦ absurd (d m l a)
    | inr (inr g) ↦ absurd (b n g c)
  ]

  -- what is told of two rules
  tell_alike : (q r : Ruling C) (e f : Entry P) → SamePair e f → Tells s k q r e → Tells s k q r f → pointed e f.point ≡ f
  tell_alike q r e f same t u = same_entry e f same.0 same.1 (t.first_id ∙ sym u.first_id) (t.second_id ∙ sym u.second_id)
      (same_port e.port f.port (t.port_is.first f.port u.port_is.shared) (u.port_is.first e.port t.port_is.shared))
      (same_class q r e.class f.class t.class_is u.class_is)
      (t.mark_is ∙ sym u.mark_is)

  -- both entries speak of the same two rules
  of_one_pair : (rs : List (Ruling C)) (e f : Entry P) → SamePair e f → (t : SpeaksOf s k rs e) → SpeaksOf s k rs f → Tells s k t.q t.r f
  of_one_pair rs e f same t u =
      subst (λ z. Tells s k z t.r f) (nth_one u.first_is (ap (λ i. slice_get rs i) (sym same.0) ∙ t.first_is))
      (subst (λ z. Tells s k u.q z f) (nth_one u.second_is (ap (λ i. slice_get rs i) (sym same.1) ∙ t.second_is)) u.tells)

  covering : Laws k → (rs : List (Ruling C)) (es fs : List (Entry P)) → NamesAll s k rs es → NamesAll s k rs fs → Covers es fs
  covering laws rs es fs m n e h = let g = n.every e.first e.second (told s k laws rs e (m.only.true_of e h)) in (g.0, g.1, (sym g.2, sym g.3))

  pub named_alike : Laws k → (rs : List (Ruling C)) (es fs : List (Entry P)) → NamesAll s k rs es → NamesAll s k rs fs → Alike es fs
  named_alike laws rs es fs m n = alike es fs m.only.in_order n.only.in_order (covering laws rs es fs m n) (covering laws rs fs es n m)
      (λ e f h g same. (let t = m.only.true_of e h in tell_alike t.q t.r e f same t.tells (of_one_pair rs e f same t (n.only.true_of f g))))

  -- where two conditions have one given point, so have two entries of one pair
  same_point : OneGiven k → (rs : List (Ruling C)) (e f : Entry P) → SpeaksOf s k rs e → SpeaksOf s k rs f → pointed e f.point ≡ f → e.point ≡ f.point
  same_point one rs e f t u a =
      let same : SamePair e f = (ap (λ (z : Entry P). z.first) a, ap (λ (z : Entry P). z.second) a) in
      one t.q.condition t.r.condition e.point f.point t.tells.point_is (of_one_pair rs e f same t u).point_is

  pub named_exact : OneGiven k → Laws k → (rs : List (Ruling C)) (es fs : List (Entry P)) → NamesAll s k rs es → NamesAll s k rs fs → es ≡ fs
  named_exact one laws rs es fs m n = exact es fs (named_alike laws rs es fs m n) (λ e f h g a. same_point one rs e f (m.only.true_of e h) (n.only.true_of f g) a)

  parts : {X : Type 0} (p : ℕ) (xs : List X) → xs ≡ take p xs ++ drop p xs
  parts p xs = sym (take-append-drop p xs)

  pub lists_alike : Laws k → (rs : List (Ruling C)) (old new new' : List (Entry P)) (p u u' : ℕ) → Reports s k rs old new p u → Reports s k rs old new' p u' → Alike new new'
  lists_alike laws rs old new new' p u u' m n =
      subst (λ z. Alike z new') (sym (parts p new)) (subst (λ z. Alike (take p new ++ drop p new) z) (sym (parts p new'))
      (subst (λ z. Alike (take p new ++ z) (take p new' ++ drop p new')) (sym m.rest) (subst (λ z. Alike (take p new ++ drop p old) (take p new' ++ z)) (sym n.rest)
      (alike_more (take p new) (take p new') (drop p old) (named_alike laws rs (take p new) (take p new') m.names n.names)))))

  pub lists_exact : OneGiven k → Laws k → (rs : List (Ruling C)) (old new new' : List (Entry P)) (p u u' : ℕ) → Reports s k rs old new p u → Reports s k rs old new' p u' → new ≡ new'
  lists_exact one laws rs old new new' p u u' m n =
      parts p new ∙ ap (λ z. z ++ drop p new) (named_exact one laws rs (take p new) (take p new') m.names n.names) ∙ ap (λ z. take p new' ++ z) (m.rest ∙ sym n.rest) ∙ sym (parts p new')
