use Rattle.pc_reasons.proofs.faults.LineFault.put.Goals as goal

pub returns-in-NoCommand : goal.returns-in-NoCommand
returns-in-NoCommand g c = rw c.in-NoCommand.is c.put.ensures

pub returns-in-TooFewWords : goal.returns-in-TooFewWords
returns-in-TooFewWords g c = rw c.in-TooFewWords.is c.put-in-TooFewWords.ensures

pub returns-in-TooManyWords : goal.returns-in-TooManyWords
returns-in-TooManyWords g c = rw c.in-TooManyWords.is c.put-in-TooManyWords.ensures

pub returns-in-CarriageReturn : goal.returns-in-CarriageReturn
returns-in-CarriageReturn g c = rw c.in-CarriageReturn.is c.put-in-CarriageReturn.ensures

pub returns-in-WrongWord : goal.returns-in-WrongWord
returns-in-WrongWord g c = rw c.in-WrongWord.is c.put_wrong_word.ensures
