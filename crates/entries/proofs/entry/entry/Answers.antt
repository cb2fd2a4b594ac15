-- `entries::entry::entry` meets its contract, by the body that was told.
use mathlib.Core.Path.{subst}
use borrow.Author.Tests.{eq-eqb}
use Rattle.words.proofs.WordLaws.{words_long, sound-holds}
use Rattle.journal.proofs.MadeLaws.{Taken}
use Rattle.engine.proofs.LentCalls.{said-none}
use Rattle.entries.proofs.MadeParts.{made_by, made-unread}
use Rattle.entries.proofs.entry.entry.Goals as goal

pub fresh_in-requires : goal.fresh_in-requires
fresh_in-requires c = eq-eqb _ _ (words_long _ (sound-holds _ c.requires.is_sound.0))

pub returns-in-Request : goal.returns-in-Request
returns-in-Request c =
    rw c.in-Request.is (made_by c.args.writes c.args.room c.args.ws.now c.args.out.now c.requires.is_sound.0 c.args.s.now _ tt _ _ _ c.request_in.ensures.ledger c.request_in.ensures.answer c.request_in.ensures.bytes)

pub returns-in-File : goal.returns-in-File
returns-in-File c =
    rw c.in-File.is (made_by c.args.writes c.args.room c.args.ws.now c.args.out.now c.requires.is_sound.0 c.args.s.now _ tt _ _ _ c.file_in.ensures.ledger c.file_in.ensures.answer c.file_in.ensures.bytes)

pub returns-in-Cancel : goal.returns-in-Cancel
returns-in-Cancel c =
    rw c.in-Cancel.is (made_by c.args.writes c.args.room c.args.ws.now c.args.out.now c.requires.is_sound.0 c.args.s.now _ tt _ _ _ c.bill_call_in.ensures.ledger c.bill_call_in.ensures.answer c.bill_call_in.ensures.bytes)

pub returns-in-Close : goal.returns-in-Close
returns-in-Close c =
    rw c.in-Close.is (made_by c.args.writes c.args.room c.args.ws.now c.args.out.now c.requires.is_sound.0 c.args.s.now _ tt _ _ _ c.close_in.ensures.1 c.close_in.ensures.2 (said-none c.args.writes _))

pub returns-in-Removal : goal.returns-in-Removal
returns-in-Removal c =
    rw c.in-Removal.is (made_by c.args.writes c.args.room c.args.ws.now c.args.out.now c.requires.is_sound.0 c.args.s.now _ tt _ _ _ c.removal_in.ensures.1 c.removal_in.ensures.2 (said-none c.args.writes _))

pub returns-in-Fresh : goal.returns-in-Fresh
returns-in-Fresh c =
    rw c.in-Fresh.is (made_by c.args.writes c.args.room c.args.ws.now c.args.out.now c.requires.is_sound.0 c.args.s.now _ (subst Taken c.in-Fresh.is c.requires.is_sound.1) _ _ _ c.fresh_in.ensures.0 c.fresh_in.ensures.1 (said-none c.args.writes _))

pub returns-in-Unread : goal.returns-in-Unread
returns-in-Unread c = rw c.in-Unread.is (made-unread c.args.writes c.args.room c.args.ws.now c.args.out.now c.requires.is_sound.0 c.args.s.now)
