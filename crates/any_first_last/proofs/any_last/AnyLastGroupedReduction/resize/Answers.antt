use Rattle.any_first_last.proofs.any_last.AnyLastGroupedReduction.resize.Goals as goal

pub returns-in-I8-clause-err : goal.returns-in-I8-clause-err
returns-in-I8-clause-err c = rw c.in-I8.is c.resize.ensures.err

pub returns-in-I16-clause-err : goal.returns-in-I16-clause-err
returns-in-I16-clause-err c = rw c.in-I16.is c.resize-in-I16.ensures.err

pub returns-in-I32-clause-err : goal.returns-in-I32-clause-err
returns-in-I32-clause-err c = rw c.in-I32.is c.resize-in-I32.ensures.err

pub returns-in-I64-clause-err : goal.returns-in-I64-clause-err
returns-in-I64-clause-err c = rw c.in-I64.is c.resize-in-I64.ensures.err

pub returns-in-I128-clause-err : goal.returns-in-I128-clause-err
returns-in-I128-clause-err c = rw c.in-I128.is c.resize-in-I128.ensures.err

pub returns-in-U8-clause-err : goal.returns-in-U8-clause-err
returns-in-U8-clause-err c = rw c.in-U8.is c.resize-in-U8.ensures.err

pub returns-in-U16-clause-err : goal.returns-in-U16-clause-err
returns-in-U16-clause-err c = rw c.in-U16.is c.resize-in-U16.ensures.err

pub returns-in-U32-clause-err : goal.returns-in-U32-clause-err
returns-in-U32-clause-err c = rw c.in-U32.is c.resize-in-U32.ensures.err

pub returns-in-U64-clause-err : goal.returns-in-U64-clause-err
returns-in-U64-clause-err c = rw c.in-U64.is c.resize-in-U64.ensures.err
