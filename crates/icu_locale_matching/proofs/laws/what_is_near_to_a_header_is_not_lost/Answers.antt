use Rattle.icu_locale_matching.proofs.Heard.{heard}
use Rattle.icu_locale_matching.proofs.laws.what_is_near_to_a_header_is_not_lost.Goals as goal

pub returns : goal.returns
returns c s header place range y result want at lets near is = heard c.spelled_once_by.ensures s header result is place range y want at lets near
