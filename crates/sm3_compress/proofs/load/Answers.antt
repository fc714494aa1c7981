-- `sm3_compress::load` meets its contract: word i is the number of quad i. Assumes nothing.
use Rattle.std.proofs.Common.{◌<◌, ◌/◌, [], length, get_or, ap, ◌∙◌, rules, arith}
use Rattle.words.specs.Bytes.{number}
use Rattle.words.proofs.Lists.{table_ext, get_or-first_chunks}
use Rattle.words.proofs.Made.{made_table}
use Rattle.sm3_compress.specs.Standard.{word, words}
use Rattle.sm3_compress.proofs.load.Goals as goal

pub returns : goal.returns
unfolding words word
returns c =
    let quads = c.as_chunks.result.0.now in
    made_table _ _ _ (λ i. number (get_or quads i [])) 16 (λ i y q b k. search rules) c.from_fn.ensures.items
    ∙ table_ext _ _ 16
    (λ i b.
    let within : i < length c.args.block.now / 4 = omega arith in
    ap number (ap (λ l. get_or l i []) c.as_chunks.ensures.front ∙ get_or-first_chunks 4 _ i c.args.block.now [] within))
