use Rattle.icu_locale.specs.declared.expander.Favor.TheVariants.{RegionFirst}
use Rattle.icu_locale_key.proofs.WholeKeys.{Facts, whole_key_one, key_or_reason, whole_reason_one, whole_key_own, whole_keys_equal}
use Rattle.icu_locale_key.proofs.laws.whole_key_is_one.Goals as goal

pub returns : goal.returns
returns c =
    let facts : Facts = record {
      one = c.whole_form_is_one.ensures.one;
      stays = c.whole_form_stays.ensures.whole;
      none = λ by old new e is why. c.whole_where_runs_end.ensures.refused by old e (c.whole_where_runs_end.ensures.ends by old new is) why;
      once = c.a_refusal_is_one.ensures;
      form = c.minimal_form_is_one.ensures.exists RegionFirst;
    } in
    record {
      one = whole_key_one facts;
      not_both = key_or_reason facts;
      one_reason = whole_reason_one facts;
      own = whole_key_own facts;
      equal = whole_keys_equal facts;
    }
