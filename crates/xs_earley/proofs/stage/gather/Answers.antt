use Rattle.std.proofs.Common.{List, [], ◌++◌, length, ◌∙◌, ap, subst, arith}
use Rattle.std.specs.Prelude.{Contains, slice_index_or}
use Rattle.xs_chart.specs.declared.item.Item.{Item}
use Rattle.xs_earley.specs.declared.begun.Begun.{Begun}
use Rattle.xs_earley.specs.Arriving.{gathered, item_due, item_begun, more_due, more_begun}
use Rattle.xs_earley.proofs.Arrivals.{due_iff, fresh_iff, item_number, begun_number, begun_few}
use Rattle.xs_earley.proofs.stage.gather.Goals as goal

pub arrive_all-requires-clause-states : goal.arrive_all-requires-clause-states
arrive_all-requires-clause-states c item h =
    let run = c.requires.run in
    let w = c.args.word.now in
    item_number c.args.g.now w c.args.symbol c.args.chart.now.sets run.chart run.sound.built c.args.facts.now run.facts (slice_index_or c.args.begun.now (length w) []) (run.begun (length w) (omega arith)) item (subst (λ (l : List Item). Contains l item) c.items.ensures h)

pub read_all-requires-clause-states : goal.read_all-requires-clause-states
read_all-requires-clause-states c b h =
    let run = c.requires.run in
    let w = c.args.word.now in
    begun_number c.args.g.now w c.args.symbol c.args.chart.now.sets run.chart run.sound.built c.args.facts.now run.facts (slice_index_or c.args.begun.now (length w) []) (run.begun (length w) (omega arith)) b (subst (λ (l : List Begun). Contains l b) c.list.ensures h)

pub read_all-requires-clause-counts : goal.read_all-requires-clause-counts
read_all-requires-clause-counts c b h =
    let run = c.requires.run in
    let w = c.args.word.now in
    begun_few c.args.g.now w c.args.symbol c.args.chart.now.sets run.chart run.sound.built c.args.facts.now run.facts (slice_index_or c.args.begun.now (length w) []) (run.begun (length w) (omega arith)) run.few b (subst (λ (l : List Begun). Contains l b) c.list.ensures h)

pub returns-clause-due_is : goal.returns-clause-due_is
returns-clause-due_is c =
    let g = c.args.g.now in
    let f = c.args.facts.now in
    let s = c.args.symbol in
    c.in_ok-read_all.ensures.due
    ∙ ap (λ (l : List Begun). c.arrive_all.new.due.items ++ gathered (more_due f s) l) c.list.ensures
    ∙ ap (λ (l : List Item). l ++ gathered (more_due f s) (slice_index_or c.args.begun.now (length c.args.word.now) [])) (c.in_ok-arrive_all.ensures.due ∙ ap (λ (l : List Item). l ++ gathered (item_due g f s) c.items.result.now) c.clear.ensures.items ∙ ap (gathered (item_due g f s)) c.items.ensures)

pub returns-clause-fresh_is : goal.returns-clause-fresh_is
returns-clause-fresh_is c =
    let f = c.args.facts.now in
    let s = c.args.symbol in
    c.in_ok-read_all.ensures.fresh
    ∙ ap (λ (l : List Begun). c.arrive_all.new.fresh.items ++ gathered (more_begun f s) l) c.list.ensures
    ∙ ap (λ (l : List Begun). l ++ gathered (more_begun f s) (slice_index_or c.args.begun.now (length c.args.word.now) [])) (c.in_ok-arrive_all.ensures.fresh ∙ ap (λ (l : List Begun). l ++ gathered (item_begun f s) c.items.result.now) c.clear-2.ensures.items ∙ ap (gathered (item_begun f s)) c.items.ensures)

pub returns-clause-due : goal.returns-clause-due
returns-clause-due c =
    let run = c.requires.run in
    let w = c.args.word.now in
    due_iff c.args.g.now w c.args.symbol c.args.chart.now.sets run.chart run.sound.built c.args.facts.now run.facts (slice_index_or c.args.begun.now (length w) []) (run.begun (length w) (omega arith)) c.read_all.new.due.items (returns-clause-due_is c)

pub returns-clause-fresh : goal.returns-clause-fresh
returns-clause-fresh c =
    let run = c.requires.run in
    let w = c.args.word.now in
    fresh_iff c.args.g.now w c.args.symbol c.args.chart.now.sets run.chart run.sound.built c.args.facts.now run.facts (slice_index_or c.args.begun.now (length w) []) (run.begun (length w) (omega arith)) c.read_all.new.fresh.items (returns-clause-fresh_is c)
