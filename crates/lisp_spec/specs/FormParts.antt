-- As what a form is looked at. Source: Chialisp reference.

pub data Part : Type 0 where
  Expression : Part
  -- a list of expressions, from one of them on
  Operands : Part
  Template : Part
  -- a list of one template
  OneTemplate : Part
