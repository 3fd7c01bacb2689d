use Rattle.std.proofs.Common.{[], refl, ap}
use Rattle.icu_locale_core.specs.Maps.{value_at}
use Rattle.icu_locale_core.specs.TextSet.{text_cmp}
use Rattle.icu_locale_runs.specs.laws.LaterEnds.{kept, no_later_end}
use Rattle.icu_locale_values.specs.Aliases.{next_field, next_keyword}
use Rattle.icu_locale_values.proofs.Followed.{none_followed, unfollowed}
use Rattle.icu_locale_values.proofs.Languages.{by_languages}
use Rattle.icu_locale_values.proofs.Ruled.{BecomeEnds-whole, none_without_rows}
use Rattle.icu_locale_values.proofs.laws.without_aliases.Goals as goal

pub returns-clause-whole : goal.returns-clause-whole
returns-clause-whole c = λ by old new none languages is maps.
    let before = old.locale.extensions.unicode.keywords in
    let after = new.extensions.unicode.keywords in
    let keys = c.canonical_keywords_by_key.ensures in
    let still = none_followed (next_keyword by.keywords) before none.keywords in
    record {
      locale = record {
        id = is.id;
        transform = by_languages by old.locale.extensions.transform.lang new.extensions.transform.lang languages is.transform;
        keywords = BecomeEnds-whole by.rules by.keywords before after after []
            (λ key. no_later_end (next_keyword by.keywords key) (value_at text_cmp before key) (still key)) (λ key. refl)
            (keys.region_override by.rules before after is.keywords) (keys.subdivision by.rules before after is.keywords) (keys.others by.rules before after is.keywords);
      };
      fields = λ key. kept (next_field by.fields key) (value_at text_cmp old.fields key) (none_followed (next_field by.fields) old.fields none.fields key);
      attributes = refl;
      others = refl;
      private_use = refl;
      maps = maps;
    }

pub returns-clause-none : goal.returns-clause-none
returns-clause-none c = λ by old no_keywords no_fields. record {
  fields = unfollowed (next_field by.fields) (λ key v. ap (λ t. next_field t key v) no_fields) old.fields;
  keywords = unfollowed (next_keyword by.keywords) (λ key v. none_without_rows by.keywords no_keywords key v) old.locale.extensions.unicode.keywords;
}
