-- A word that stands in a text is read there, and a word that is read stands there.
use Rattle.std.proofs.Common.{◌≡◌, ℕ, suc, ◌+◌, ◌<◌, ◌≤◌, min, Bool, true, false, List, ◌∷◌, ◌++◌, length, get_or, take, drop, Ok, Err, Result, sym, refl, ap, ◌∙◌, subst, inl, inr, arith, drop-cons}
use Rattle.std.specs.List.{prefix_len}
use Rattle.std.proofs.lemmas.List.{take-append-drop, length-append, length-drop, length-take-le, take_all, drop_at, take_at, drop-drop}
use Rattle.std.proofs.lemmas.List.Sums.{prefix_len-le-length, prefix_len_stops}
use Rattle.site.specs.declared.refusals.Cause.{Cause}
use Rattle.site.specs.declared.refusals.Cause.TheVariants.{TextEnds, Unexpected}
use Rattle.site.specs.declared.refusals.Refusal.{Refusal}
use Rattle.words.specs.declared.words.Found.{Found as Read}
use Rattle.words.specs.declared.words.Word.{Word}
use Rattle.words.specs.Words.{blank, bytes_of, moved, due_of, due_at, due_from}
use Rattle.words.specs.Writing.{Token, Each, spelling, valued, Stands, kind, WordAt, NoWordAt, ended, unexpected, ReadAsItStands}
use Rattle.words.proofs.Tokens.{split_due, is_read, was_written, fronts, takes, Why, why, stop}

pub no_way : {X E : Type 0} {x : X} {e : E} → Err e ≡ Ok x → ⊥
no_way p = let z : ◌≡◌ {A = ℕ} 0 1 = cc in omega arith

pub past : (text : List ℕ) (at k : ℕ) (x y : List ℕ) → drop at text ≡ x ++ y → k ≡ at + length x → drop k text ≡ y
past text at k x y e h = ap (λ n. drop n text) h ∙ sym (drop-drop (length x) at text) ∙ ap (drop (length x)) e ∙ drop_at x y (length x) refl

due_moved : (b : Bool) (text : List ℕ) (at : ℕ) → due_from b text at ≡ moved (min at (length text)) (due_at b (drop at text))
due_moved true text at = refl
due_moved false text at = refl

abbrev pub found : Word → ℕ → ℕ → Read
found w from to = record { word = w; from = from; to = to }

module _ {text : List ℕ} {at : ℕ} {t : Token} {from to : ℕ} (st : Stands text at t from to) where
  pub goes_on : at < to
  goes_on = omega (arith, st.starts, st.ends, takes t st.sound)

  pub stays_within : to ≤ length text
  stays_within =
      omega (arith, st.starts, st.ends, takes t st.sound, ap length st.parts, length-drop at text, length-append st.blanks (spelling t ++ st.more), length-append (spelling t) st.more)

  begins_there : min at (length text) ≡ at
  begins_there = omega (arith, goes_on, stays_within)

  pub reads : due_from (valued t) text at ≡ Ok (found (kind t) from to)
  reads =
      due_moved (valued t) text at
      ∙ ap (λ n. moved n (due_at (valued t) (drop at text))) begins_there
      ∙ ap (λ l. moved at (due_at (valued t) l)) st.parts
      ∙ ap (moved at) (is_read st.blanks t st.more st.empty st.sound st.longest)
      ∙ ap (λ n. Ok (found (kind t) n (at + (length st.blanks + length (spelling t))))) (sym st.starts)
      ∙ ap (λ n. Ok (found (kind t) from n)) (omega (arith, st.starts, st.ends))

  pub bytes_are : (w : Word) → bytes_of text (found w from to) ≡ spelling t
  bytes_are w =
      ap (λ n. take n (drop from text)) (omega (arith, st.ends))
      ∙ ap (take (length (spelling t))) (past text at from st.blanks (spelling t ++ st.more) st.parts st.starts)
      ∙ take_at (spelling t) st.more (length (spelling t)) refl

pub read_back : (text : List ℕ) (at : ℕ) (b : Bool) (f : Read) → due_from b text at ≡ Ok f → WordAt b text at f
read_back text at b f e = go (due_at b (drop at text)) refl (sym (due_moved b text at) ∙ e)
  where
    go : (r : Result Read Refusal) → due_at b (drop at text) ≡ r → moved (min at (length text)) r ≡ Ok f → WordAt b text at f
    go (Err x) p g = absurd (no_way g)
    go (Ok r) p g =
        let x = was_written b (drop at text) r p in
        let gap : List ℕ = take (prefix_len blank (drop at text)) (drop at text) in
        let parts : drop at text ≡ gap ++ (spelling x.token ++ x.more) = sym (take-append-drop (prefix_len blank (drop at text)) (drop at text)) ∙ ap (λ l. gap ++ l) x.parts in
        let st : Stands text at x.token (at + length gap) ((at + length gap) + length (spelling x.token)) = record {
          blanks = gap;
          more = x.more;
          parts = parts;
          empty = fronts blank (drop at text);
          sound = x.sound;
          longest = x.longest;
          starts = refl;
          ends = refl;
        } in
        let same : ◌≡◌ {A = Result Read Refusal} (Ok (found (kind x.token) (at + length gap) ((at + length gap) + length (spelling x.token)))) (Ok f) =
        sym (reads st) ∙ ap (λ v. due_from v text at) x.as_due ∙ e in
        let is : found (kind x.token) (at + length gap) ((at + length gap) + length (spelling x.token)) ≡ f = cc in
        record {
          token = x.token;
          stands = subst (λ (h : Read). Stands text at x.token h.from h.to) is st;
          as_due = x.as_due;
          word = sym (ap (λ (h : Read). h.word) is);
        }

err_same : {x y : Refusal} → ◌≡◌ {A = Result Read Refusal} (Err x) (Err y) → x ≡ y
err_same e = cc

-- no word was read
module _ (text : List ℕ) (at : ℕ) (b : Bool) (e : Refusal) where
  abbrev bs : List ℕ
  bs = drop at text

  abbrev n : ℕ
  n = prefix_len blank (drop at text)

  all_blank : n ≡ length bs → Each blank bs
  all_blank h = subst (Each blank) (take_all n bs (omega arith)) (fronts blank bs)

  moved_on : (x : Refusal) (c : Cause) → moved (min at (length text)) (Err x) ≡ Err e → x ≡ stop c n → e ≡ stop c (min at (length text) + n)
  moved_on x c g w = sym (err_same g) ∙ ap (λ (y : Refusal). stop y.cause (min at (length text) + y.place)) w

  why_not : (r : Result Read Refusal) → Why n (drop n bs) r → moved (min at (length text)) r ≡ Err e → NoWordAt text at e.cause e.place
  why_not (Ok r) w g = absurd (no_way (sym g))
  why_not (Err x) (inl w) g =
      let le = prefix_len-le-length blank bs in
      let rest = length-drop n bs in
      let len = length-drop at text in
      let is : e ≡ stop TextEnds (length text) = moved_on x TextEnds g w.0 ∙ ap (stop TextEnds) (omega (arith, w.1)) in
      subst (λ (y : Refusal). NoWordAt text at y.cause y.place) (sym is) (ended (all_blank (omega (arith, w.1))))
  why_not (Err x) (inr w) g =
      let le = prefix_len-le-length blank bs in
      let rest = length-drop n bs in
      let len = length-drop at text in
      let lt : n < length bs = omega (arith, w.1) in
      let parts : bs ≡ take n bs ++ (get_or bs n 0 ∷ drop (suc n) bs) = sym (take-append-drop n bs) ∙ ap (λ l. take n bs ++ l) (drop-cons bs n 0 lt) in
      let is : e ≡ stop Unexpected (at + length (take n bs)) = moved_on x Unexpected g w.0 ∙ ap (stop Unexpected) (omega (arith, length-take-le n bs le)) in
      subst (λ (y : Refusal). NoWordAt text at y.cause y.place) (sym is) (unexpected (take n bs) (drop (suc n) bs) (get_or bs n 0) parts (fronts blank bs) (prefix_len_stops blank bs 0 lt))

  pub not_read : due_from b text at ≡ Err e → NoWordAt text at e.cause e.place
  not_read h = why_not (due_of b n (drop n bs)) (why b n (drop n bs)) (sym (ap (moved (min at (length text))) (split_due b bs)) ∙ sym (due_moved b text at) ∙ h)

pub as_it_stands : (b : Bool) (text : List ℕ) (at : ℕ) → ReadAsItStands b text at (due_from b text at)
as_it_stands b text at = record {
  found = λ f. (read_back text at b f, λ w. ap (λ d. due_from d text at) (sym w.as_due) ∙ reads w.stands ∙ ap (λ k. Ok (found k f.from f.to)) (sym w.word));
  refused = λ e. not_read text at b e;
}
