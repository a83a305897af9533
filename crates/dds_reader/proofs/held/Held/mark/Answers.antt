use Rattle.std.proofs.Common.{◌-◌, ap}
use Rattle.dds_cache.specs.Cache.{CacheState}
use Rattle.dds_reader.specs.Marks.{in_marks, has_marks}
use Rattle.dds_reader.specs.Ranges.{is_between}
use Rattle.dds_reader.proofs.MarkLaws.{adds_numbers, between_numbers}
use Rattle.dds_reader.proofs.HeldLaws.{listed_released, same_released, tied_marked}
use Rattle.dds_reader.proofs.held.Held.mark.Goals as goal

pub base-base-requires : goal.base-base-requires
base-base-requires c =
    let fits = between_numbers c.args.from c.args.until c.requires.low c.requires.high in
    λ n is. (adds_numbers (in_marks c.args.self.now.marks) (in_marks c.mark.new.self) c.args.writer (is_between c.args.from c.args.until) c.in_ok-fresh.ensures.marks c.args.self.now.tied.numbers fits c.args.writer n is).1

pub invariant_of-self-2 : goal.invariant_of-self-2
invariant_of-self-2 c =
    let old = c.args.self.now in
    let w = c.args.writer in
    let fits = between_numbers c.args.from c.args.until c.requires.low c.requires.high in
    record {
      tied = tied_marked (in_marks old.marks) (in_marks c.mark.new.self) (is_between c.args.from c.args.until) old.cache c.release.new.self w c.base-base.result old.tied c.requires.listed c.in_ok-fresh.ensures.marks fits c.base-base.ensures.least c.release.ensures;
      listed = listed_released (λ v. has_marks v old.marks) (λ v. has_marks v c.mark.new.self) old.cache.writers c.release.new.self.writers w (c.base-base.result - 1) c.in_ok-fresh.ensures.writers old.listed (ap (λ (v : CacheState). v.writers) c.release.ensures);
    }

pub returns-clause-cache : goal.returns-clause-cache
returns-clause-cache c = same_released c.args.self.now.cache c.release.new.self c.args.writer (c.base-base.result - 1) c.release.ensures
