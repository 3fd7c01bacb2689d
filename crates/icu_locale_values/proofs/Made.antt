-- Where each run ends, there is a whole canonical form.
use Rattle.std.proofs.Common.{◌≡◌, inl, inr, ℕ, List, [], ◌∷◌, Option, Some, None, refl, sym, ap, ◌∙◌, subst}
use Rattle.std.specs.List.Sorted.{IsStrictlySortedBy}
use Rattle.std.specs.Map.{keys_of}
use Rattle.std.proofs.lemmas.Map.Keys.{sorted_tail}
use Rattle.icu_locale_core.specs.Keywords.{KeywordRows}
use Rattle.icu_locale_core.specs.Maps.{value_at, IsSortedMap}
use Rattle.icu_locale_core.specs.TextSet.{text_cmp}
use Rattle.icu_locale_core.specs.laws.TextSets.{text_total, text_same}
use Rattle.icu_locale.specs.Kinds.{next}
use Rattle.icu_locale_extensions.specs.Locales.{IsLocaleIdentifier}
use Rattle.icu_locale_extensions.specs.declared.identifier.LocaleIdentifier.{LocaleIdentifier}
use Rattle.icu_locale_runs.specs.Run.{EndsIfAny, BecomesEnd}
use Rattle.icu_locale_values.specs.Aliases.{Pieces, next_field, next_whole}
use Rattle.icu_locale_values.specs.Whole.{WholeRules, IsWhole, BecomeEnds, AllEnd, RunsEnd}
use Rattle.icu_locale_values.proofs.Found.{same_key, found_first, found_behind, none_at_first}

end_of : {X : Type 0} (n : X → Option X) (o : Option X) → EndsIfAny n o → (new : Option X) × BecomesEnd n o new
end_of n None ends = (None, refl)
end_of n (Some x) ends = (Some ends.0, ends.1)

-- at each key the end of the run there
made : (next : List ℕ → Pieces → Option Pieces) (rows : KeywordRows) → IsSortedMap text_cmp rows → AllEnd next rows
    → (new : KeywordRows) × BecomeEnds next rows new × (keys_of new ≡ keys_of rows)
made next [] sorted ends = ([], (λ key. refl), refl)
made next (row ∷ rows) sorted ends =
    let rest = made next rows (sorted_tail text_cmp row.0 (keys_of rows) sorted) (λ key. elim (same_key text_cmp text_total text_same key row.0) [
      | inl same ↦ subst (EndsIfAny (next key))
          (sym (ap (value_at text_cmp rows) same ∙ none_at_first text_cmp text_total text_same row rows sorted)) tt
      | inr other ↦ subst (EndsIfAny (next key)) (found_behind text_cmp text_total text_same row rows key other) (ends key)
    ]) in
    let first : EndsIfAny (next row.0) (Some row.1) =
    subst (EndsIfAny (next row.0)) (found_first text_cmp text_total text_same row rows) (ends row.0) in
    let new : KeywordRows = (row.0, first.0) ∷ rest.0 in (
      new,
      λ key. elim (same_key text_cmp text_total text_same key row.0) [
        | inl same ↦
            let at : BecomesEnd (next row.0) (value_at text_cmp (row ∷ rows) row.0) (value_at text_cmp new row.0) =
            subst (λ o. BecomesEnd (next row.0) o (value_at text_cmp new row.0)) (sym (found_first text_cmp text_total text_same row rows))
            (subst (BecomesEnd (next row.0) (Some row.1)) (sym (found_first text_cmp text_total text_same (row.0, first.0) rest.0)) first.1) in
            subst (λ k. BecomesEnd (next k) (value_at text_cmp (row ∷ rows) k) (value_at text_cmp new k)) (sym same) at
        | inr other ↦
            subst (λ o. BecomesEnd (next key) o (value_at text_cmp new key)) (sym (found_behind text_cmp text_total text_same row rows key other))
            (subst (BecomesEnd (next key) (value_at text_cmp rows key))
            (sym (found_behind text_cmp text_total text_same (row.0, first.0) rest.0 key other)) (rest.1 key))
      ],
      ap (λ ks. row.0 ∷ ks) rest.2,
    )

pub whole_made : (by : WholeRules) (old : LocaleIdentifier) → IsLocaleIdentifier old → RunsEnd by old → (new : LocaleIdentifier) × IsWhole by old new
whole_made by old known ends =
    let keywords = made (next_whole by.rules by.keywords) old.locale.extensions.unicode.keywords known.keywords ends.keywords in
    let fields = made (next_field by.fields) old.fields known.fields ends.fields in
    let lang = end_of (next by.likely by.rules) old.locale.extensions.transform.lang ends.transform in (
      record {
        locale = record {
          id = ends.id.0;
          extensions = record { unicode = record { keywords = keywords.0 }; transform = record { lang = lang.0 } };
        };
        attributes = old.attributes;
        fields = fields.0;
        others = old.others;
        private_use = old.private_use;
      },
      record {
        locale = record { id = ends.id.1; transform = lang.1; keywords = keywords.1 };
        fields = fields.1;
        attributes = refl;
        others = refl;
        private_use = refl;
        maps = record {
          keywords = subst (IsStrictlySortedBy text_cmp) (sym keywords.2) known.keywords;
          fields = subst (IsStrictlySortedBy text_cmp) (sym fields.2) known.fields;
        };
      },
    )
