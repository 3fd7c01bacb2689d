use Rattle.std.proofs.Common.{◌≡◌, IfOk, sym, ap, ◌∙◌, subst}
use Rattle.icu_tables.proofs.ValidityRows.{if_text-is, if_text-none}
use Rattle.icu_tables.proofs.from_json.validity.read_code.Goals as goal

-- the bytes are a text
pub returns-in-Ok : goal.returns-in-Ok
returns-in-Ok g c =
    let reads = g.K.ReadsValue.reads in
    let text = c.in-Ok.ensures.cases in
    subst (λ said. IfOk c.read.result (λ read. read ≡ said))
    (ap reads text.0 ∙ sym (if_text-is reads c.args.code.now text.1)) c.read.ensures

-- they are none
pub returns-in-Err : goal.returns-in-Err
returns-in-Err g c = if_text-none g.K.ReadsValue.reads c.args.code.now c.in-Err.ensures.cases.0
