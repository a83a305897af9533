use Rattle.std.proofs.Common.{◌≤◌, ◌<◌, length, string_bytes, arith}
use Rattle.dds_answers.specs.Reading.{most_bytes}
use Rattle.dds_search.specs.declared.answer.Found.TheVariants as found
use Rattle.dds_sizing.specs.Searches.{found_end}
use Rattle.dds_sizing.proofs.Founds.{long_gives, memory_ends, short_gives}
use Rattle.dds_sizing.proofs.thorough.answer_certified.Goals as goal

pub returns-then-length-le-MAX_FILE-clause-gives : goal.returns-then-length-le-MAX_FILE-clause-gives
returns-then-length-le-MAX_FILE-clause-gives c =
    let short : length (string_bytes c.in-Ok.answer.text) ≤ most_bytes = omega (arith, c.len-length.ensures, c.if-length-le-MAX_FILE.true) in
    short_gives c.args.plan.now c.args.certificate.now c.in-Ok.answer short c.in-Ok.ensures.gives

pub returns-else-length-le-MAX_FILE-clause-gives : goal.returns-else-length-le-MAX_FILE-clause-gives
returns-else-length-le-MAX_FILE-clause-gives c =
    let long : most_bytes < length (string_bytes c.in-Ok.answer.text) = omega (arith, c.len-length.ensures, c.if-length-le-MAX_FILE.false) in
    long_gives c.args.plan.now c.args.certificate.now c.in-Ok.answer c.answer_none_with.result long c.in-Ok.ensures.gives c.answer_none_with.ensures.gives

pub returns-in-Err-clause-gives : goal.returns-in-Err-clause-gives
returns-in-Err-clause-gives c = memory_ends c.in-Err.fault (found_end c.args.plan.now (found.Certificate c.args.certificate.now)) c.in-Err.ensures.memory
