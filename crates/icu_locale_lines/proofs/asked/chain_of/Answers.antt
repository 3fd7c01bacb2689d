use Rattle.icu_locale_lines.proofs.Grammar.{chain_named}
use Rattle.icu_locale_lines.proofs.asked.chain_of.Goals as goal

pub returns : goal.returns
returns c = chain_named c.args.word.now c.from_word.result c.from_word.ensures.named c.from_word.ensures.only
