-- `posted::post_input` meets its contract: the table at the end of the reading is that of the bytes that came.
use Rattle.std.proofs.Common.{arith}
use Rattle.std.proofs.lemmas.Result.{IfOk-weaker}
use Rattle.streams.specs.declared.pieces.End.{End}
use Rattle.replay.specs.declared.Wanted.TheVariants.{Nothing}
use Rattle.replay.specs.Reading.{Reads}
use Rattle.posted.proofs.PostingLaws.{posts, posts-all}
use Rattle.posted.proofs.post_input.Goals as goal

pub table_of-requires : goal.table_of-requires
table_of-requires g c =
    let read = c.read_all-e in
    let sound = λ (e : End) (r : Reads Nothing read.new.ws read.new.buf e). r.sound in
    (IfOk-weaker _ _ _ sound read.ensures.reads, omega arith)

pub returns-clause-posts : goal.returns-clause-posts
returns-clause-posts g c = posts _ _ _ _ _ _ c.read_all-e.ensures.reads c.table_of.ensures

pub returns-clause-all : goal.returns-clause-all
returns-clause-all g c = posts-all _ _ _ _ _ _ _ _ _ _ c.read_all-e.ensures.bytes c.table_of.ensures
