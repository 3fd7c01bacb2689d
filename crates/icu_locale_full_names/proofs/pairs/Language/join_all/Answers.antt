use Rattle.std.proofs.Common.{false}
use Rattle.icu_locale_full_names.proofs.Joining.{joins_more_ok}
use Rattle.icu_locale_full_names.proofs.pairs.Language.join_all.Goals as goal

-- the one and then the other
pub returns : goal.returns
returns c =
    joins_more_ok c.args.self.now.separator.now _ _ c.args.draft.now false c.join_base.new.draft c.in_ok-is_any.is_any
    c.join_further.new.draft c.join_further.result c.in_ok-is_any.ensures c.join_further.ensures
