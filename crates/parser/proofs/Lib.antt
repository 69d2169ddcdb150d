mod Store
