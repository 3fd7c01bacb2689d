use Rattle.icu_locale_full_names.proofs.Joining.{joins_more_ok}
use Rattle.icu_locale_full_names.proofs.pairs.Language.join_further.Goals as goal

-- the one and then the other
pub returns : goal.returns
returns c =
    joins_more_ok c.args.self.now.separator.now _ _ c.args.draft.now c.args.is_any c.join_transform.new.draft c.in_ok-is_any.is_any
    c.join_from_unicode.new.draft c.join_from_unicode.result c.in_ok-is_any.ensures c.join_from_unicode.ensures
