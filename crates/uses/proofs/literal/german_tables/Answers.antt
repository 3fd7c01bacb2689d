use Rattle.std.proofs.Common.{◌≡◌, ◌≢◌, Option, None, Result, Ok, Err, refl, sym, ap}
use Rattle.std.proofs.lemmas.Result.{IfOk-weaker, IfErr-weaker}
use Rattle.std.specs.Str.{is_utf8, chars}
use Rattle.serde_json.proofs.OnLiterals.{serde_json_on_literals}
use Rattle.icu_provider.specs.declared.likely.language.LikelySubtagsForLanguage.{LikelySubtagsForLanguage}
use Rattle.icu_tables.specs.Rows.{FileRows}
use Rattle.icu_tables.specs.declared.error.TableError.{TableError}
use Rattle.icu_tables.specs.declared.error.TableError.TheVariants.{Json, Shape, Memory}
use Rattle.uses.proofs.literal.german_tables.Goals as goal

-- the likely table of rows, if these are there
abbrev likely_in : Result FileRows TableError → Option LikelySubtagsForLanguage
likely_in (Ok rows) = rows.likely_language
likely_in (Err e) = None

-- a text that has rows is refused for want of memory alone
memory_alone : (rows : FileRows) (e : TableError) → (e ≢ Memory → Ok rows ≡ Err e) → e ≡ Memory
memory_alone rows Memory refused = refl
memory_alone rows Json refused = let other : Json ≢ Memory = λ same. cc in let none = refused other in cc
memory_alone rows Shape refused = let other : Shape ≢ Memory = λ same. cc in let none = refused other in cc

-- what the text says is computed
pub returns-clause-row : goal.returns-clause-row
unfolding serde_json_on_literals is_utf8 chars
returns-clause-row c =
    IfOk-weaker c.from_json.result _ _ (λ tables rows. ap likely_in (sym rows)) c.from_json.ensures.rows

pub returns-clause-refused : goal.returns-clause-refused
unfolding serde_json_on_literals is_utf8 chars
returns-clause-refused c =
    IfErr-weaker c.from_json.result _ _ (λ e refused. memory_alone _ e refused) c.from_json.ensures.refused
