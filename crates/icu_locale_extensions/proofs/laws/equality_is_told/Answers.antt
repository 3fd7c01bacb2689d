use Rattle.icu_locale_extensions.proofs.Equality.{rows_tell, texts_tell_all, whole_tells}
use Rattle.icu_locale_extensions.proofs.laws.equality_is_told.Goals as goal

pub returns-clause-attributes : goal.returns-clause-attributes
returns-clause-attributes c = λ s t. ((texts_tell_all s t).0, (texts_tell_all s t).1)

pub returns-clause-fields : goal.returns-clause-fields
returns-clause-fields c = λ k l. ((rows_tell k l).0, (rows_tell k l).1)

pub returns-clause-others : goal.returns-clause-others
returns-clause-others c = λ k l. ((rows_tell k l).0, (rows_tell k l).1)

pub returns-clause-whole : goal.returns-clause-whole
returns-clause-whole c = λ x y. whole_tells _ x y (c.equality_is_told.ensures.locales x.locale y.locale)
