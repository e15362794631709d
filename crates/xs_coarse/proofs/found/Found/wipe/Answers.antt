use Rattle.std.proofs.Common.{◌<◌, ◌≤◌, ◌∙◌, ap, arith, length, length-set}
use Rattle.xs_class.proofs.Lists.{contains_of}
use Rattle.xs_coarse.proofs.FoundLemmas.{found_word, marked_more, marked_none}
use Rattle.xs_coarse.proofs.GrowthLemmas.{read_at}
use Rattle.xs_coarse.proofs.found.Found.wipe.Goals as goal

pub places-preserved : goal.places-preserved
places-preserved c =
    let known = c.places.invariant in
    let p = c.index-pair.result.now in
    let low : c.places.place < length c.places.self.pairs.items = omega (arith, ap (λ v. length v.items) known.pairs, c.places-test.true, c.len-place-end.ensures, c.args.self.now.pairs.ok) in
    let here = read_at c.places.self.pairs.items c.places.place p low c.index-pair.ensures in
    let word = found_word c.args.self.now p c.requires (contains_of c.args.self.now.pairs.items c.places.place p (rw known.pairs at here)) in
    record {
      height = known.height;
      width = known.width;
      pairs = known.pairs;
      room = length-set c.places.self.words.items _ _ ∙ known.room;
      marked = marked_more c.places.place c.places.self.width c.places.self.pairs.items c.places.self.words.items p here (rw (known.width, known.room) word) known.marked;
    }

pub returns : goal.returns
returns c =
    let known = c.places.invariant in
    let high : length c.places.self.pairs.items ≤ c.places.place = omega (arith, ap (λ v. length v.items) known.pairs, c.places-test.false, c.len-place-end.ensures, c.args.self.now.pairs.ok) in
    record {
      height = known.height;
      width = known.width;
      room = known.room;
      pairs = c.clear.ensures.items;
      blank = marked_none c.places.place c.places.self.width c.places.self.pairs.items c.places.self.words.items high known.marked;
    }
