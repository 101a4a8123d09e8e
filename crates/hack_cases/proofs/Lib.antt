mod FieldsRise
