-- `group::answer::answer` meets its contract, by the verdict that was told.
use native.Mathlib.Omega.{arith}
use Rattle.fields.proofs.PutLaws.{put-nil}
use Rattle.file.proofs.FileLaws.{header_is, leading-within}
use Rattle.group.specs.parts.Turns.{answer_at}
use Rattle.group.proofs.AnswerSizes.{details-are, sized-acf, sized-rej}
use Rattle.group.proofs.answer.answer.Goals as goal

pub returns-then-writes : goal.returns-then-writes
unfolding answer_at
returns-then-writes c =
    let a = c.args in
    let told = c.in-Ok.is in
    let z = sized-acf a.v a.h a.b a.g.now.file.now a.g.now.header a.g.now.records a.g.now.in_file.0 a.g.now.in_file.1 _ told in
    (rw (c.if-writes.true, told, header_is a.g.now.file.now a.g.now.header a.g.now.records) (rw c.acf_of.ensures at c.write_acf.ensures), z.0, z.1)

pub write-requires : goal.write-requires
write-requires c =
    let a = c.args in
    let room = c.requires.has_room c.if-writes-2.true in
    let k = leading-within a.g.now.file.now a.g.now.header a.g.now.records in
    (omega (arith, c.requires, c.args.g.now.in_file, room, k, c.detail_count-k.ensures), omega (arith, c.requires, c.args.g.now.in_file, k, c.detail_count-k.ensures))

pub overflow_add-result : goal.overflow_add-result
overflow_add-result c = omega (arith, c.requires, c.args.g.now.in_file, c.detail_count-k.ensures, leading-within c.args.g.now.file.now c.args.g.now.header c.args.g.now.records)

pub overflow_mul-result : goal.overflow_mul-result
overflow_mul-result c = omega (arith, c.requires, c.args.g.now.in_file, c.detail_count-k.ensures, leading-within c.args.g.now.file.now c.args.g.now.header c.args.g.now.records)

pub returns-then-writes-2 : goal.returns-then-writes-2
unfolding answer_at
returns-then-writes-2 c =
    let a = c.args in
    let told = c.in-Err.is in
    let k = c.detail_count-k.ensures in
    let z = sized-rej a.v a.h a.b a.g.now.file.now a.g.now.header a.g.now.records a.g.now.in_file.0 a.g.now.in_file.1 _ told _ k in
    (rw (c.if-writes-2.true, told, header_is a.g.now.file.now a.g.now.header a.g.now.records, details-are a.g.now.file.now a.g.now.header a.g.now.records _ k) c.write.ensures, z.0, z.1)

pub overflow_add-result-in-Err : goal.overflow_add-result-in-Err
overflow_add-result-in-Err c = omega (arith, c.requires, c.args.g.now.in_file, c.detail_count-k.ensures, leading-within c.args.g.now.file.now c.args.g.now.header c.args.g.now.records)

pub overflow_mul-result-in-Err : goal.overflow_mul-result-in-Err
overflow_mul-result-in-Err c = omega (arith, c.requires, c.args.g.now.in_file, c.detail_count-k.ensures, leading-within c.args.g.now.file.now c.args.g.now.header c.args.g.now.records)

pub returns-else-writes : goal.returns-else-writes
returns-else-writes c =
    let a = c.args in
    let told = c.in-Ok.is in
    let z = sized-acf a.v a.h a.b a.g.now.file.now a.g.now.header a.g.now.records a.g.now.in_file.0 a.g.now.in_file.1 _ told in
    (rw c.if-writes.false (put-nil _ _), z.0, z.1)

pub returns-else-writes-2 : goal.returns-else-writes-2
returns-else-writes-2 c =
    let a = c.args in
    let told = c.in-Err.is in
    let k = c.detail_count-k.ensures in
    let z = sized-rej a.v a.h a.b a.g.now.file.now a.g.now.header a.g.now.records a.g.now.in_file.0 a.g.now.in_file.1 _ told _ k in
    (rw c.if-writes-2.false (put-nil _ _), z.0, z.1)
