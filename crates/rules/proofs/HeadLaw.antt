-- The head of a rule is read exactly where it is written.
use Rattle.std.proofs.Common.{◌≡◌, ℕ, true, false, cond, List, Some, None, Ok, Option, sym, refl, ap, ◌∙◌, subst, inl, inr}
use Rattle.std.proofs.lemmas.Bool.{cond-true}
use Rattle.fixed.specs.Rosters.{number_of}
use Rattle.fixed.specs.Spelling.{is_name}
use Rattle.site.specs.declared.refusals.Cause.TheVariants.{OverLimit}
use Rattle.site.specs.Plans.{Plan}
use Rattle.site.specs.Refusals.{refuse}
use Rattle.words.specs.declared.words.Found.{Found as Read}
use Rattle.words.specs.declared.words.Word.TheVariants.{Name}
use Rattle.rules.specs.Grammar.{HeadAt}
use Rattle.sections.specs.Heads.{Placed, Head, named, name_from, owned, after_id_of, head_from}
use Rattle.sections.specs.Meeting.{onward}
use Rattle.words.specs.Tests.{is_named}
use Rattle.words.specs.Words.{bytes_of, word_from}
use Rattle.words.specs.Writing.{name, spelling, Stands, kind}
use Rattle.rules.proofs.Courses.{onward_ok, which, ok_same}
use Rattle.words.proofs.Telling.{as_name}
use Rattle.words.proofs.Standing.{no_way, reads, bytes_are, read_back}

-- a name as it was read
record NameAt (text : List ℕ) (at : ℕ) (n : Placed) : Type 0 where
  pub stands : Stands text at (name n.name) n.from n.to
  pub proper : is_name n.name ≡ true

name_written : (text : List ℕ) (at : ℕ) (n : Placed) → name_from text at ≡ Ok n → NameAt text at n
name_written text at n e = got (onward_ok (named text) n (word_from text at) e)
  where
    got : ((f : Read) × (word_from text at ≡ Ok f) × (named text f ≡ Ok n)) → NameAt text at n
    got r = elim (which (is_named r.0.word) _ _ n r.2) [
      | inl x ↦ elim (which (is_name (bytes_of text r.0)) _ _ n x.1) [
        | inl y ↦
            (let w = read_back text at false r.0 r.1 in
            let bytes : bytes_of text r.0 ≡ spelling w.token = bytes_are w.stands r.0.word in
            let is_name : is_named (kind w.token) ≡ true = sym (ap is_named w.word) ∙ x.0 in
            let st : Stands text at (name (bytes_of text r.0)) r.0.from r.0.to = subst (λ l. Stands text at (name l) r.0.from r.0.to) (sym bytes) (as_name w.stands is_name) in
            subst (λ (m : Placed). NameAt text at m) (ok_same y.1) (record { stands = st; proper = y.0 }))
        | inr y ↦ absurd (no_way y.1)
      ]
      | inr x ↦ absurd (no_way x.1)
    ]

abbrev called : List ℕ → ℕ → ℕ → Placed
called n from to = record { name = n; from = from; to = to }

name_read : (text : List ℕ) (at : ℕ) (n : List ℕ) (from to : ℕ) → Stands text at (name n) from to → is_name n ≡ true → name_from text at ≡ Ok (called n from to)
name_read text at n from to st proper =
    ap (onward (named text)) (reads st)
    ∙ ap (λ l. cond (is_name l) (Ok (called l from to)) (refuse OverLimit from)) (bytes_are st Name)
    ∙ cond-true (is_name n) _ _ proper

module _ (s : Plan) (text : List ℕ) (at : ℕ) where
  -- what is read is written
  pub head_written : (h : Head) → head_from s text at ≡ Ok h → HeadAt s text at h.id h.place h.user h.rank h.end
  head_written h e =
      let r = onward_ok (after_id_of s text) h (name_from text at) e in
      let q = onward_ok (λ by. owned s r.0 by (number_of by.name s.users)) h (name_from text r.0.to) r.2 in
      go r.0 q.0 (name_written text at r.0 r.1) (name_written text r.0.to q.0 q.1) (number_of q.0.name s.users) refl q.2
    where
      go : (id by : Placed) → NameAt text at id → NameAt text id.to by → (o : Option ℕ) → number_of by.name s.users ≡ o → owned s id by o ≡ Ok h → HeadAt s text at h.id h.place h.user h.rank h.end
      go id by a b None f g = absurd (no_way g)
      go id by a b (Some u) f g =
          subst (λ (x : Head). HeadAt s text at x.id x.place x.user x.rank x.end) (ok_same g) (record {
            after_id = id.to;
            by = by.name;
            named = a.stands;
            proper = a.proper;
            owned = (by.from, b.stands);
            owner = b.proper;
            declared = f;
            ranked = refl;
          })

  -- what is written is read
  pub head_read : {id : List ℕ} {place user rank to : ℕ} → HeadAt s text at id place user rank to → head_from s text at ≡ Ok (record { id = id; place = place; user = user; rank = rank; end = to })
  head_read {id} {place} {user} {rank} {to} w =
      ap (onward (after_id_of s text)) (name_read text at id place w.after_id w.named w.proper)
      ∙ ap (onward (λ by. owned s (called id place w.after_id) by (number_of by.name s.users))) (name_read text w.after_id w.by w.owned.0 to w.owned.1 w.owner)
      ∙ ap (owned s (called id place w.after_id) (called w.by w.owned.0 to)) w.declared
      ∙ ap (λ r. Ok (record { id = id; place = place; user = user; rank = r; end = to })) (sym w.ranked)
