-- One more place of an identifier in its own spelling.
use Rattle.std.proofs.Common.{◌≡◌, ◌≢◌, ◌⊎◌, ℕ, zero, suc, ◌+◌, ◌≤◌, List, [], ◌∷◌, map, length, Option, Some, None, IfSome, true, refl, ap, sym, subst, ◌∙◌, inl, inr, ⊎_elim, arith}
use Rattle.std.specs.List.{slice_get}
use Rattle.std.specs.BTreeMap.{insert_entry}
use Rattle.std.specs.declared.cmp.Ordering.{Ordering}
use Rattle.std.specs.declared.cmp.Ordering.TheVariants.{Less, Equal, Greater}
use Rattle.std.specs.Prelude.{is_some, IsSome}
use Rattle.std.specs.Option.{option_map}
use Rattle.std.proofs.lemmas.Bool.{cases_lt, false≢true}
use Rattle.std.proofs.lemmas.Option.{same_Some, none-some, slice_get_within, slice_get-map}
use Rattle.icu_locale.specs.LikelySubtags.{LikelySubtags}
use Rattle.icu_locale_core.specs.Maps.{value_at}
use Rattle.icu_locale_core.specs.TextSet.{empty}
use Rattle.icu_locale_core.specs.declared.langid.LanguageIdentifier.{LanguageIdentifier}
use Rattle.icu_provider.specs.Requests.{key_order}
use Rattle.icu_provider.specs.laws.Requests.{same_key, key_itself}
use Rattle.icu_provider.specs.laws.SortedMaps.{found_inserted, others_inserted}
use Rattle.icu_provider.specs.contracts.names.NameKeyOrd.TheImpl.Laws as name_key_laws
use Rattle.icu_provider.specs.contracts.names.NameKeyOrd.TheImpl as name_key
use Rattle.icu_provider.specs.declared.names.NameKey.{NameKey}
use Rattle.icu_locale_matching.specs.Nearest.{Question, IsSpelledFirst, IsFormedFirst, form_of}
use Rattle.icu_locale_matching.specs.inner.Made.{in_form}
use Rattle.icu_locale_matching.specs.inner.Spelled.{key_of, place_at, AreSpelled}

tie_or_not : (o : Ordering) → (o ≡ Equal) ⊎ (o ≢ Equal)
tie_or_not Less = inr (λ e. absurd (cc))
tie_or_not Equal = inl refl
tie_or_not Greater = inr (λ e. absurd (cc))

at_or_after : (n k : ℕ) → n ≤ k → (k ≡ n) ⊎ (n + 1 ≤ k)
at_or_after n k le = ⊎_elim (λ later. inr (omega arith)) (λ upto. inl (omega arith)) (cases_lt n k)

-- identifiers without variants are told by their keys
same_spelled : (x y : LanguageIdentifier) → x.variants ≡ empty → y.variants ≡ empty → key_of x ≡ key_of y → x ≡ y
same_spelled x y plain other same =
    let language : x.language ≡ y.language = cc in
    let script : x.script ≡ y.script = cc in
    let region : x.region ≡ y.region = cc in
    λ i. record {
      language = language i;
      script = script i;
      region = region i;
      variants = (plain ∙ sym other) i;
    }

tied_same : (y x : LanguageIdentifier) → y ≡ x → ((a b : NameKey) → name_key.ghosts.cmp a b ≡ key_order a b)
    → name_key.ghosts.cmp (key_of y) (key_of x) ≡ Equal
tied_same y x same ordered = ordered (key_of y) (key_of x) ∙ ap (key_order (key_of y)) (ap key_of (sym same)) ∙ key_itself (key_of y)

noted_by : (o : Option ℕ) (j : ℕ) → o ≡ Some j → IsSome o
noted_by o j e = ap is_some e

pub none_spelled : (xs : List LanguageIdentifier) → AreSpelled xs (length xs) []
none_spelled xs = record {
  each = λ x j plain noted. absurd (none-some j noted);
  every = λ x k plain from is. absurd (let within = slice_get_within xs k x is in omega (arith, within, from));
}

module _ (xs : List LanguageIdentifier) (n : ℕ) (y : LanguageIdentifier) (stands : slice_get xs n ≡ Some y) where
  -- one that has variants is nowhere noted
  pub passed_over : (rows : List (NameKey × ℕ)) → (y.variants ≡ empty → ⊥) → AreSpelled xs (n + 1) rows → AreSpelled xs n rows
  passed_over rows varied known = record {
    each = λ x j plain noted.
        let later = known.each x j plain noted in record {
          from = omega (arith, later.from);
          at = later.at;
          first = λ k from is. ⊎_elim
              (λ here. absurd (varied (ap (λ (z : LanguageIdentifier). z.variants) (same_Some y x (sym stands ∙ ap (slice_get xs) (sym here) ∙ is)) ∙ plain)))
              (λ after. later.first k after is)
              (at_or_after n k from);
        };
    every = λ x k plain from is. ⊎_elim
        (λ here. absurd (varied (ap (λ (z : LanguageIdentifier). z.variants) (same_Some y x (sym stands ∙ ap (slice_get xs) (sym here) ∙ is)) ∙ plain)))
        (λ after. known.every x k plain after is)
        (at_or_after n k from);
  }

  pub more_spelled : (old new : List (NameKey × ℕ)) → ((a b : NameKey) → name_key.ghosts.cmp a b ≡ key_order a b)
      → y.variants ≡ empty → new ≡ insert_entry name_key.ghosts.cmp old (key_of y) n → AreSpelled xs (n + 1) old → AreSpelled xs n new
  more_spelled old new ordered bare rows known =
      let found : place_at new y ≡ Some n = found_inserted name_key_laws.total-law old new (key_of y) n rows in
      let others = others_inserted name_key_laws.total-law old new (key_of y) n rows in record {
        each = λ x j plain noted. ⊎_elim
            (λ tied.
            let same : y ≡ x = same_spelled y x bare plain (same_key (key_of y) (key_of x) (sym (ordered (key_of y) (key_of x)) ∙ tied)) in
            let place : j ≡ n = same_Some j n (sym noted ∙ ap (place_at new) (sym same) ∙ found) in
            record {
              from = omega (arith, place);
              at = ap (slice_get xs) place ∙ stands ∙ ap Some same;
              first = λ k from is. omega (arith, place, from);
            })
            (λ other.
            let later = known.each x j plain (sym (others (key_of x) other) ∙ noted) in record {
              from = omega (arith, later.from);
              at = later.at;
              first = λ k from is. ⊎_elim
                  (λ here. absurd (other (tied_same y x (same_Some y x (sym stands ∙ ap (slice_get xs) (sym here) ∙ is)) ordered)))
                  (λ after. later.first k after is)
                  (at_or_after n k from);
            })
            (tie_or_not (name_key.ghosts.cmp (key_of y) (key_of x)));
        every = λ x k plain from is. ⊎_elim
            (λ tied.
            let same : key_of y ≡ key_of x = same_key (key_of y) (key_of x) (sym (ordered (key_of y) (key_of x)) ∙ tied) in
            noted_by (place_at new x) n (ap (value_at name_key.ghosts.cmp new) (sym same) ∙ found))
            (λ other. ⊎_elim
            (λ here. absurd (other (tied_same y x (same_Some y x (sym stands ∙ ap (slice_get xs) (sym here) ∙ is)) ordered)))
            (λ after. subst IsSome (sym (others (key_of x) other)) (known.every x k plain after is))
            (at_or_after n k from))
            (tie_or_not (name_key.ghosts.cmp (key_of y) (key_of x)));
      }

-- the place that is noted for the first request, if it may be served
pub spelled_at : (q : Question) (x : LanguageIdentifier) (j : ℕ) (rows : List (NameKey × ℕ)) (o : Option ℕ) → slice_get q.requests 0 ≡ Some x
    → AreSpelled q.available 0 rows → x.variants ≡ empty → place_at rows x ≡ Some j → IfSome o (λ k. (k ≡ j) × (q.may j ≡ true))
    → IfSome o (IsSpelledFirst q)
spelled_at q x j rows None stands known plain noted served = tt
spelled_at q x j rows (Some k) stands known plain noted served =
    let place = known.each x j plain noted in record {
      request = x;
      requested = stands;
      offered = ap (slice_get q.available) served.0 ∙ place.at;
      may = ap q.may served.0 ∙ served.1;
      first = λ l is may. let upto = place.first l (omega arith) is in omega (arith, upto, served.0);
    }

-- ---- the first request by its maximal form

mapped_at : {X Y : Type 0} (f : X → Y) (xs : List X) (j : ℕ) (y : Y) → slice_get (map f xs) j ≡ Some y → (x : X) × (slice_get xs j ≡ Some x) × (f x ≡ y)
mapped_at f [] j y is = absurd (none-some y is)
mapped_at f (x ∷ xs) zero y is = (x, refl, same_Some (f x) y is)
mapped_at f (x ∷ xs) (suc j) y is = mapped_at f xs j y is

same_form_from : (l : LikelySubtags) (x y : LanguageIdentifier) → in_form l x ≡ in_form l y → form_of l x ≡ form_of l y
same_form_from l x y same = λ i. record { language = (same i).language; script = (same i).script; region = (same i).region }

same_in_form : (l : LikelySubtags) (x y : LanguageIdentifier) → form_of l x ≡ form_of l y → x.variants ≡ y.variants → in_form l x ≡ in_form l y
same_in_form l x y form variants = λ i. record { language = (form i).language; script = (form i).script; region = (form i).region; variants = variants i }

-- the place that is noted for its form, where it is nowhere in its own spelling
pub formed_at : (q : Question) (x : LanguageIdentifier) (j : ℕ) (spelled rows : List (NameKey × ℕ)) (o : Option ℕ) → slice_get q.requests 0 ≡ Some x
    → AreSpelled q.available 0 spelled → AreSpelled (map (in_form q.likely) q.available) 0 rows → x.variants ≡ empty → place_at spelled x ≡ None
    → place_at rows (in_form q.likely x) ≡ Some j → IfSome o (λ k. (k ≡ j) × (q.may j ≡ true)) → IfSome o (IsFormedFirst q)
formed_at q x j spelled rows None stands known formed plain none noted served = tt
formed_at q x j spelled rows (Some k) stands known formed plain none noted served =
    let f = in_form q.likely in
    let place = formed.each (f x) j plain noted in
    let there = mapped_at f q.available j (f x) place.at in
    record {
      request = x;
      identifier = there.0;
      requested = stands;
      offered = ap (slice_get q.available) served.0 ∙ there.1;
      may = ap q.may served.0 ∙ served.1;
      form = same_form_from q.likely there.0 x there.2;
      variants = ap (λ (z : LanguageIdentifier). z.variants) there.2;
      unspelled = λ l is may. false≢true (ap is_some (sym none) ∙ known.every x l plain (omega arith) is);
      first = λ l y is may form variants.
          let upto = place.first l (omega arith) (slice_get-map f q.available l ∙ ap (option_map f) is ∙ ap Some (same_in_form q.likely y x form variants)) in
          omega (arith, upto, served.0);
    }
