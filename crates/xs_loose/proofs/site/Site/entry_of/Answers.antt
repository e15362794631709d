use Rattle.std.proofs.Common.{suc, arith}
use Rattle.xs_check_laws.specs.Weights.{heaviest}
use Rattle.xs_check_laws.proofs.Weights.{members_once}
use Rattle.xs_loose.proofs.Moving.{rank_in, member_room}
use Rattle.xs_loose.proofs.site.Site.entry_of.Goals as goal

pub overflow_mul-result : goal.overflow_mul-result
overflow_mul-result c =
    let own = rank_in c.args.self.now.g.now c.args.self.now.tables.now.ranks c.args.home.non c.args.member c.at-rank.result.now c.requires.site.tables.ranks c.requires.there c.at-rank.ensures c.requires.member in
    omega (arith, member_room c.args.self.now.g.now c.requires.site.built (suc heaviest) c.args.home c.args.member c.at-rank.result.now c.requires.home c.requires.there c.requires.member own)

pub overflow_add-result : goal.overflow_add-result
overflow_add-result c =
    let own = rank_in c.args.self.now.g.now c.args.self.now.tables.now.ranks c.args.home.non c.args.member c.at-rank.result.now c.requires.site.tables.ranks c.requires.there c.at-rank.ensures c.requires.member in
    omega (arith, member_room c.args.self.now.g.now c.requires.site.built (suc heaviest) c.args.home c.args.member c.at-rank.result.now c.requires.home c.requires.there c.requires.member own)

pub returns-clause-entry : goal.returns-clause-entry
returns-clause-entry c = λ j members.
    let own = rank_in c.args.self.now.g.now c.args.self.now.tables.now.ranks c.args.home.non c.args.member c.at-rank.result.now c.requires.site.tables.ranks c.requires.there c.at-rank.ensures c.requires.member in
    omega (arith, members_once members own)

pub returns-clause-exit : goal.returns-clause-exit
returns-clause-exit c = λ bound home.
    let own = rank_in c.args.self.now.g.now c.args.self.now.tables.now.ranks c.args.home.non c.args.member c.at-rank.result.now c.requires.site.tables.ranks c.requires.there c.at-rank.ensures c.requires.member in
    omega (arith, member_room c.args.self.now.g.now c.requires.site.built bound c.args.home c.args.member c.at-rank.result.now home c.requires.there c.requires.member own)
