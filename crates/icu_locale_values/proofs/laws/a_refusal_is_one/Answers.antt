use Rattle.icu_locale_values.proofs.OneRefusal.{whole_one}
use Rattle.icu_locale_values.proofs.laws.a_refusal_is_one.Goals as goal

pub returns : goal.returns
returns c = λ by old e f p q other also. whole_one by c.canonical_form_is_one.ensures.apart old e f p q other also
